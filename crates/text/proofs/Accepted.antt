-- Laws of the ranges: what is known of a size, a side and heights that are accepted, and when each test of a call is passed. Assumes nothing.
use mathlib.Core.Path.{◌≡◌, refl, sym, ap, ap₂, ◌∙◌}
use mathlib.Core.List.{List, [], ◌∷◌}
use mathlib.Core.Bool.{Bool, true, false, not, cond, ◌&&◌, true≢false}
use Prim.Native.Nat.{ℕ, ◌*◌, ◌≤◌, ◌<◌}
use native.Mathlib.Nat.{le_trans, mul-le-mul_right}
use native.Mathlib.Omega.{arith}
use native.Mathlib.Decide.{dec_lt, ℕ_discrete}
use lib.ListN.{get_or}
use lib.IntN.{ℤ, pos, negsuc}
use lib.Dec.{ltb, leb, eqb}
use mir.Syntax.{w32}
use mir.Val.{SFits, to_z, of_z}
use mir.Facts.{to_z-of_z}
use borrow.Author.Tests.{leb-true, lt-leb, ltb-true, ltb-false, lt-ltb, le-ltb, eqb-true, not-false, not-true}
use Rattle.std.proofs.Common.{Option, Some, None}
use Rattle.laws.specs.Tests.{passed, failed}
use Rattle.laws.proofs.Tests.{and_both, and-false-left, and-false-right}
use Rattle.laws.proofs.Verdicts.{test-yes, test-no, test-passed}
use Rattle.laws.proofs.First.{first-before}
use Rattle.text.specs.Quantities.{no_data_height}
use Rattle.text.specs.Heights.{same}
use Rattle.text.specs.Ranges.{size_accepted, side_accepted, height_accepted, first_bad, bad_cell, all_long, size_test, length_test, side_test, height_test}

-- ---- sizes

pub size_is : (n : ℕ) → size_accepted n ≡ true → (1 ≤ n) × (n ≤ 1024)
unfolding size_accepted
size_is n e = let w = and_both (leb 1 n) (leb n 1024) e in (leb-true 1 n w.0, leb-true n 1024 w.1)

-- a grid's number of cells
pub area_small : (rows cols : ℕ) → rows ≤ 1024 → cols ≤ 1024 → rows * cols ≤ 1048576
area_small rows cols h k = le_trans (mul-le-mul_right cols h) (omega arith)

pub area-few : (rows cols : ℕ) → size_accepted rows ≡ true → size_accepted cols ≡ true → rows * cols ≤ 1048576
area-few rows cols r c = area_small rows cols (size_is rows r).1 (size_is cols c).1

module _ (rows cols : ℕ) where
  pub size-passed : size_test rows cols ≡ passed → (size_accepted rows ≡ true) × (size_accepted cols ≡ true)
  unfolding size_test
  size-passed e = and_both (size_accepted rows) (size_accepted cols) (test-passed (size_accepted rows && size_accepted cols) 1 0 e)

  pub size-passes : size_accepted rows ≡ true → size_accepted cols ≡ true → size_test rows cols ≡ passed
  unfolding size_test
  size-passes r c = test-yes 1 0 (ap₂ ◌&&◌ r c)

  pub rows-fail : size_accepted rows ≡ false → size_test rows cols ≡ failed 1 0
  unfolding size_test
  rows-fail e = test-no 1 0 (sym (and-false-left (size_accepted rows) (size_accepted cols) e))

  pub columns-fail : size_accepted cols ≡ false → size_test rows cols ≡ failed 1 0
  unfolding size_test
  columns-fail e = test-no 1 0 (sym (and-false-right (size_accepted rows) (size_accepted cols) e))

-- ---- lengths

module _ (n : ℕ) where
  pub lengths-pass : (l : List ℕ) → all_long n l ≡ true → length_test n l ≡ passed
  unfolding length_test
  lengths-pass l e = test-yes 2 0 e

  pub lengths-fail : (l : List ℕ) → all_long n l ≡ false → length_test n l ≡ failed 2 0
  unfolding length_test
  lengths-fail l e = test-no 2 0 e

  pub length-passed : (a : ℕ) (l : List ℕ) → length_test n (a ∷ l) ≡ passed → (a ≡ n) × (length_test n l ≡ passed)
  unfolding length_test all_long
  length-passed a l e = let w = and_both (eqb a n) (all_long n l) (test-passed (eqb a n && all_long n l) 2 0 e) in (eqb-true a n w.0, test-yes 2 0 w.1)

  -- each length of the list is n
  abbrev pub AllLong : List ℕ → Type 0
  AllLong [] = Unit
  AllLong (a ∷ l) = (a ≡ n) × AllLong l

  pub lengths-passed : (l : List ℕ) → length_test n l ≡ passed → AllLong l
  lengths-passed [] e = tt
  lengths-passed (a ∷ l) e = let w = length-passed a l e in (w.0, lengths-passed l w.1)

  -- the tests of the lengths as `a & b & c` joins them
  abbrev pub joined : Bool → List ℕ → Bool
  joined b [] = b
  joined b (a ∷ l) = joined (b && eqb a n) l

  joined-with : (b : Bool) (l : List ℕ) → joined b l ≡ (b && all_long n l)
  unfolding all_long
  joined-with true [] = refl
  joined-with false [] = refl
  joined-with true (a ∷ l) = joined-with (eqb a n) l
  joined-with false (a ∷ l) = joined-with false l

  pub joined-long : (l : List ℕ) → joined true l ≡ all_long n l
  joined-long l = joined-with true l

-- ---- the cell side

pub side-is : (side : ℕ) → side_accepted side ≡ true → (1 ≤ side) × (side ≤ 100000)
unfolding side_accepted
side-is side e = let w = and_both (leb 1 side) (leb side 100000) e in (leb-true 1 side w.0, leb-true side 100000 w.1)

pub side-passed : (side : ℕ) → side_test side ≡ passed → side_accepted side ≡ true
unfolding side_test
side-passed side e = test-passed (side_accepted side) 3 0 e

pub side-passes : (side : ℕ) → side_accepted side ≡ true → side_test side ≡ passed
unfolding side_test
side-passes side e = test-yes 3 0 e

pub side-fails : (side : ℕ) → side_accepted side ≡ false → side_test side ≡ failed 3 0
unfolding side_test
side-fails side e = test-no 3 0 e

-- ---- heights

-- NoData as 32 bits
pub bits_none : (z : ℤ) → SFits w32 z → of_z w32 z ≡ 4293967396 → z ≡ no_data_height
bits_none z f e = sym (to_z-of_z f) ∙ ap (to_z w32) e

pub none-bits : (z : ℤ) → (of_z w32 z ≡ 4293967396 → ⊥) → z ≡ no_data_height → ⊥
none-bits z d e = d (ap (of_z w32) e)

-- numbers that are the same to the reader are equal
pub same-equal : (a b : ℤ) → same a b ≡ true → a ≡ b
same-equal (pos a) (pos b) e = let w = and_both (leb a b) (leb b a) e in ap pos (omega (arith, leb-true a b w.0, leb-true b a w.1))
same-equal (pos a) (negsuc b) e = absurd (true≢false (sym e))
same-equal (negsuc a) (pos b) e = absurd (true≢false (sym e))
same-equal (negsuc a) (negsuc b) e = let w = and_both (leb b a) (leb a b) e in ap negsuc (omega (arith, leb-true b a w.0, leb-true a b w.1))

-- a height is NoData, or the test says that it is not
pub same_not : (z : ℤ) → (z ≡ no_data_height → ⊥) → same z no_data_height ≡ false
same_not (pos n) d = refl
same_not (negsuc n) d =
    elim (ℕ_discrete n 999899) [
      | yes e ↦ absurd (d (ap negsuc e))
      | no f ↦ elim (dec_lt n 999899) [
        | yes h ↦ rw (lt-leb 999899 n h)
        | no g ↦ rw (lt-leb n 999899 (omega arith)) (and-off (leb 999899 n))
      ]
    ]
  where
    and-off : (b : Bool) → (b && false) ≡ false
    and-off true = refl
    and-off false = refl

module _ (n : ℕ) (elevation : List ℤ) where
  pub good-before : (x : ℕ) → x < first_bad n elevation → height_accepted (get_or elevation x no_data_height) ≡ true
  unfolding first_bad
  good-before x h = not-false (height_accepted (get_or elevation x no_data_height)) (first-before (λ y. not (height_accepted (get_or elevation y no_data_height))) n x h)

  pub height-passed : height_test n elevation ≡ passed → (x : ℕ) → x < n → height_accepted (get_or elevation x no_data_height) ≡ true
  unfolding height_test
  height-passed e x h =
      good-before x (omega (arith, ltb-false (first_bad n elevation) n (not-true (ltb (first_bad n elevation) n) (test-passed (not (ltb (first_bad n elevation) n)) 5 (first_bad n elevation) e))))

  pub height-passes : n ≤ first_bad n elevation → height_test n elevation ≡ passed
  unfolding height_test
  height-passes h = test-yes 5 (first_bad n elevation) (ap not (le-ltb (first_bad n elevation) n h))

  pub height-fails : first_bad n elevation < n → height_test n elevation ≡ failed 5 (first_bad n elevation)
  unfolding height_test
  height-fails h = test-no 5 (first_bad n elevation) (ap not (lt-ltb (first_bad n elevation) n h))

  -- what the search for a bad cell tells
  pub bad-some : {x : ℕ} → Some x ≡ bad_cell n elevation → (x ≡ first_bad n elevation) × (x < n)
  bad-some {x} e = go (ltb (first_bad n elevation) n) refl e
    where
      go : (b : Bool) → ltb (first_bad n elevation) n ≡ b → Some x ≡ cond b (Some (first_bad n elevation)) None → (x ≡ first_bad n elevation) × (x < n)
      go true q r = let z : x ≡ first_bad n elevation = cc in (z, omega (arith, z, ltb-true (first_bad n elevation) n q))
      go false q r = absurd (let z : ◌≡◌ {A = Option ℕ} (Some x) None = r in cc)

  pub bad-none : None ≡ bad_cell n elevation → n ≤ first_bad n elevation
  bad-none e = go (ltb (first_bad n elevation) n) refl e
    where
      go : (b : Bool) → ltb (first_bad n elevation) n ≡ b → None ≡ cond b (Some (first_bad n elevation)) None → n ≤ first_bad n elevation
      go true q r = absurd (let z : ◌≡◌ {A = Option ℕ} None (Some (first_bad n elevation)) = r in cc)
      go false q r = ltb-false (first_bad n elevation) n q
