-- The readers of the header, by the steps of the readers that they stand on. Assumes nothing.
use mathlib.Core.Path.{◌≡◌, sym, subst}
use mathlib.Core.Bool.{Bool, true, false}
use mathlib.Core.List.{List}
use Prim.Native.Nat.{ℕ, ◌-◌, ◌≤◌, ◌<◌}
use native.Mathlib.Omega.{arith}
use borrow.Author.Tests.{lt-ltb, le-ltb}
use lib.ListN.{length, get_or}
use lib.IntN.{ℤ}
use Rattle.text.specs.Bytes.{bytes}
use Rattle.text.specs.Quantities.{side_in}
use Rattle.text.specs.Reader.{Step, got, refused, Reader}
use Rattle.text.specs.Words.{word_start, Word, word}
use Rattle.text.specs.Numbers.{Placed, Number, number, measure, count}
use Rattle.text.specs.Headers as H
use Rattle.text.specs.Headers.{letter, letter_next, named, name, corner, side, field, any_measure, absent_no_data, no_data}
use Rattle.text.specs.Headers.{extent, corners, side_and_no_data, head}
use Rattle.text.specs.declared.Span.{Span}
use Rattle.text.specs.declared.Corners.{Corners}
use Rattle.text.proofs.Ends.{end-lower}
use Rattle.text.proofs.Right.{NextWord, number-next}

-- ---- a header name

module _ (n s : List ℕ) (at : ℕ) where
  pub name-none : (m p : ℕ) → word s at ≡ refused m p → refused m p ≡ name n s at
  unfolding name
  name-none m p e = rw e

  module _ (w : Word) (j : ℕ) (e : word s at ≡ got w j) where
    pub name-off : false ≡ named s w.start w.end n → refused 6 w.start ≡ name n s at
    unfolding name
    name-off t = rw (e, sym t)

    pub name-on : true ≡ named s w.start w.end n → got tt j ≡ name n s at
    unfolding name
    name-on t = rw (e, sym t)

-- ---- a name, followed by its number

module _ {A : Type 0} (x : Reader A) (n s : List ℕ) (at : ℕ) where
  pub field_off : (m p : ℕ) → name n s at ≡ refused m p → refused m p ≡ field n x s at
  unfolding field
  field_off m p e = rw e

  pub field-on : (j : ℕ) → name n s at ≡ got tt j → x s j ≡ field n x s at
  unfolding field
  field-on j e = rw e

-- ---- the numbers

module _ (s : List ℕ) (at : ℕ) where
  pub corner-none : (m p : ℕ) → number s at ≡ refused m p → refused m p ≡ corner s at
  unfolding corner
  corner-none m p e = rw e

  module _ (x : Placed Number) (j : ℕ) (e : number s at ≡ got x j) where
    pub corner-from : x.place ≤ j
    corner-from = let w = subst (NextWord s at) e (number-next s at) in omega (arith, w.1, w.2, end-lower s (word_start s at))

    pub corner-on : got (record { first = x.place; length = j - x.place }) j ≡ corner s at
    unfolding corner
    corner-on = rw e

  pub any_none : (m p : ℕ) → measure s at ≡ refused m p → refused m p ≡ any_measure s at
  unfolding any_measure
  any_none m p e = rw e

  pub side-none : (m p : ℕ) → measure s at ≡ refused m p → refused m p ≡ side s at
  unfolding side
  side-none m p e = rw e

  module _ (x : Placed ℤ) (j : ℕ) (e : measure s at ≡ got x j) where
    pub any-on : got x.is j ≡ any_measure s at
    unfolding any_measure
    any-on = rw e

    pub side-off : side_in x.is ≡ false → refused 3 x.place ≡ side s at
    unfolding side
    side-off t = rw (e, t)

    pub side-on : side_in x.is ≡ true → got x.is j ≡ side s at
    unfolding side
    side-on t = rw (e, t)

-- ---- the NoData number

module _ (s : List ℕ) (at : ℕ) where
  pub letter-in : (a : ℕ) (t : Bool) → a ≡ word_start s at → a < length s → t ≡ letter (get_or s a 0) → t ≡ letter_next s at
  letter-in a t p h e = rw (← p, lt-ltb a (length s) h) e

  pub letter-past : (a : ℕ) → a ≡ word_start s at → length s ≤ a → false ≡ letter_next s at
  letter-past a p h = rw (← p, le-ltb a (length s) h)

  pub no-data-given : letter_next s at ≡ true → field (bytes "nodata_value") any_measure s at ≡ no_data s at
  unfolding no_data
  no-data-given t = rw (t, no_data)

  pub no-data-absent : letter_next s at ≡ false → got absent_no_data at ≡ no_data s at
  unfolding no_data
  no-data-absent t = rw (t, no_data)

-- ---- the extent

module _ (s : List ℕ) (at : ℕ) where
  pub extent-no-columns : (m p : ℕ) → field (bytes "ncols") count s at ≡ refused m p → refused m p ≡ extent s at
  unfolding extent
  extent-no-columns m p e = rw e

  module _ (c j : ℕ) (e : field (bytes "ncols") count s at ≡ got c j) where
    pub extent-no-rows : (m p : ℕ) → field (bytes "nrows") count s j ≡ refused m p → refused m p ≡ extent s at
    unfolding extent
    extent-no-rows m p q = rw (e, q)

    pub extent-on : (r i : ℕ) → field (bytes "nrows") count s j ≡ got r i → got (record { rows = r; columns = c }) i ≡ extent s at
    unfolding extent
    extent-on r i q = rw (e, q)

-- ---- the corners

module _ (s : List ℕ) (at : ℕ) where
  pub corners-no-x : (m p : ℕ) → field (bytes "xllcorner") corner s at ≡ refused m p → refused m p ≡ corners s at
  unfolding corners
  corners-no-x m p e = rw e

  module _ (x : Span) (j : ℕ) (e : field (bytes "xllcorner") corner s at ≡ got x j) where
    pub corners-no-y : (m p : ℕ) → field (bytes "yllcorner") corner s j ≡ refused m p → refused m p ≡ corners s at
    unfolding corners
    corners-no-y m p q = rw (e, q)

    pub corners-on : (y : Span) (i : ℕ) → field (bytes "yllcorner") corner s j ≡ got y i → got (record { x = x; y = y }) i ≡ corners s at
    unfolding corners
    corners-on y i q = rw (e, q)

-- ---- the side and the NoData number

module _ (x : H.Extent) (k : Corners) (s : List ℕ) (at : ℕ) where
  pub last-no-side : (m p : ℕ) → field (bytes "cellsize") side s at ≡ refused m p → refused m p ≡ side_and_no_data x k s at
  unfolding side_and_no_data
  last-no-side m p e = rw e

  module _ (y : ℤ) (j : ℕ) (e : field (bytes "cellsize") side s at ≡ got y j) where
    pub last-no-data : (m p : ℕ) → no_data s j ≡ refused m p → refused m p ≡ side_and_no_data x k s at
    unfolding side_and_no_data
    last-no-data m p q = rw (e, q)

    pub last_on : (z : ℤ) (i : ℕ) → no_data s j ≡ got z i
        → got (record { header = record { rows = x.rows; columns = x.columns; side = y; no_data = z }; corners = k }) i ≡ side_and_no_data x k s at
    unfolding side_and_no_data
    last_on z i q = rw (e, q)

-- ---- the header

module _ (s : List ℕ) (at : ℕ) where
  pub head-no-extent : (m p : ℕ) → extent s at ≡ refused m p → refused m p ≡ head s at
  unfolding head
  head-no-extent m p e = rw e

  module _ (x : H.Extent) (j : ℕ) (e : extent s at ≡ got x j) where
    pub head-no-corners : (m p : ℕ) → corners s j ≡ refused m p → refused m p ≡ head s at
    unfolding head
    head-no-corners m p q = rw (e, q)

    pub head-on : (k : Corners) (i : ℕ) → corners s j ≡ got k i → (t : Step H.Head) → t ≡ side_and_no_data x k s i → t ≡ head s at
    unfolding head
    head-on k i q t o = rw (e, q) o

-- ---- the laws by which the check finds the steps of a reader that its proof file leaves out

pub ruleset of_name = (name-none, name-off, name-on)

pub ruleset of_corner = (corner-none)

pub ruleset of_length = (any_none, any-on)

pub ruleset of_side = (side-none, side-off, side-on)

pub ruleset of_no_data = (no-data-absent)

pub ruleset of_head = (head-no-extent, head-no-corners, head-on)
