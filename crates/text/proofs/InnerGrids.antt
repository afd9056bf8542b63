-- The readers of the heights and of whole texts, by the steps of the readers that they stand on. Assumes nothing.
use mathlib.Core.Path.{◌≡◌, refl, sym, ap, ◌∙◌, subst}
use mathlib.Core.Bool.{true, false}
use mathlib.Core.List.{List, [], ◌∷◌, ◌++◌}
use Prim.Native.Nat.{ℕ, zero, suc, ◌+◌, ◌-◌, ◌*◌, ◌≤◌, ◌<◌}
use native.Mathlib.Nat.{lt_of_le_of_lt}
use native.Mathlib.Omega.{arith}
use borrow.Author.Tests.{eq-eqb, ne_eqb}
use lib.Dec.{T, leb→le, lit<}
use lib.IntN.{ℤ, pos, negsuc}
use lib.ListN.{length, take, set, length-set}
use lib.Signed.{le_z}
use mir.Syntax.{w32}
use mir.Val.{SFits}
use Rattle.laws.proofs.Filling.{filling-more}
use Rattle.text.specs.Quantities.{height_in, no_data_height}
use Rattle.text.specs.Reader.{Step, got, refused, after, give}
use Rattle.text.specs.Words.{word_start}
use Rattle.text.specs.Numbers.{Placed, measure}
use Rattle.text.specs.Headers as H
use Rattle.text.specs.Heights.{same, height, heights, end, lone_header, body, grid}
use Rattle.text.specs.Answers.{accepted, refusal, lone_header_answer, grid_outcome, grid_answer}
use Rattle.text.specs.InnerHeights.{forget, Good, values_of, body_outcome, body_answer}
use Rattle.text.proofs.Ends.{word-found, word_none}

-- ---- one height

module _ (n : ℤ) (s : List ℕ) (at : ℕ) where
  pub height-none : (m p : ℕ) → measure s at ≡ refused m p → refused m p ≡ height n s at
  unfolding height
  height-none m p e = rw e

  module _ (x : Placed ℤ) (j : ℕ) (e : measure s at ≡ got x j) where
    pub height-no-data : same x.is n ≡ true → got no_data_height j ≡ height n s at
    unfolding height
    height-no-data t = rw (e, t)

    pub height-on : same x.is n ≡ false → height_in x.is ≡ true → got x.is j ≡ height n s at
    unfolding height
    height-on t u = rw (e, t, u)

    pub height-off : same x.is n ≡ false → height_in x.is ≡ false → refused 5 x.place ≡ height n s at
    unfolding height
    height-off t u = rw (e, t, u)

-- NoData and every height that is allowed fit 32 bits
pub height-32 : (z : ℤ) → T (le_z no_data_height z) → T (le_z z (pos 900000)) → SFits w32 z
height-32 (pos n) l h = record { sfits = lt_of_le_of_lt (leb→le n 900000 h) (lit< tt) }
height-32 (negsuc n) l h = record { sfits = lt_of_le_of_lt (leb→le n 999899 l) (lit< tt) }

-- ---- the heights one after the other

abbrev joined : ℤ → Step (List ℤ) → Step (List ℤ)
joined h (got hs j) = got (h ∷ hs) j
joined h (refused n p) = refused n p

module _ (n : ℤ) (s : List ℕ) (i k : ℕ) where
  first_off : (m p : ℕ) → height n s i ≡ refused m p → heights n (suc k) s i ≡ refused m p
  unfolding heights
  first_off m p h = rw (heights, h)

  first_on : (z : ℤ) (j : ℕ) → height n s i ≡ got z j → heights n (suc k) s i ≡ joined z (heights n k s j)
  unfolding heights
  first_on z j h = rw (heights, h) (go (heights n k s j))
    where
      go : (x : Step (List ℤ)) → after x (λ hs. give (z ∷ hs)) s ≡ joined z x
      go (got hs i) = refl
      go (refused m p) = refl

forget-joined : (z : ℤ) (x : Step (List ℤ)) → forget (joined z x) ≡ forget x
forget-joined z (got hs j) = refl
forget-joined z (refused m p) = refl

good-joined : (z : ℤ) (x : Step (List ℤ)) → Good (joined z x) → Good x
good-joined z (got hs j) g = g
good-joined z (refused m p) g = g

values-joined : (z : ℤ) (x : Step (List ℤ)) → Good x → values_of (joined z x) ≡ z ∷ values_of x
values-joined z (got hs j) g = refl
values-joined z (refused m p) g = absurd g

-- with k heights left to judge
module _ (n : ℤ) (s : List ℕ) (i : ℕ) where
  pub judge-off : (k m p : ℕ) → 0 < k → height n s i ≡ refused m p → forget (heights n k s i) ≡ refused m p
  judge-off zero m p h e = absurd (omega arith)
  judge-off (suc k) m p h e = ap forget (first_off n s i k m p e)

  pub judge-on : (k m : ℕ) (z : ℤ) (j : ℕ) → k ≡ m + 1 → height n s i ≡ got z j → forget (heights n k s i) ≡ forget (heights n m s j)
  judge-on k m z j q e =
      let r : k ≡ suc m = omega arith in
      ap (λ (x : ℕ). forget (heights n x s i)) r ∙ ap forget (first_on n s i m z j e) ∙ forget-joined z (heights n m s j)

  pub judge-all : (k : ℕ) → k ≡ 0 → got tt i ≡ forget (heights n k s i)
  unfolding heights
  judge-all zero h = refl
  judge-all (suc k) h = absurd (omega arith)

  -- with k heights left to store
  pub store-off : (k m p : ℕ) → 0 < k → Good (heights n k s i) → height n s i ≡ refused m p → ⊥
  store-off zero m p h g e = absurd (omega arith)
  store-off (suc k) m p h g e = subst Good (first_off n s i k m p e) g

  store-on : (k : ℕ) (z : ℤ) (j : ℕ) → 0 < k → Good (heights n k s i) → height n s i ≡ got z j
      → Good (heights n (k - 1) s j) × (values_of (heights n k s i) ≡ z ∷ values_of (heights n (k - 1) s j))
  store-on zero z j h g e = absurd (omega arith)
  store-on (suc k) z j h g e =
      let q : k ≡ suc k - 1 = omega arith in
      let f = good-joined z (heights n k s j) (subst Good (first_on n s i k z j e) g) in
      subst (λ (m : ℕ). Good (heights n m s j) × (values_of (heights n (suc k) s i) ≡ z ∷ values_of (heights n m s j))) q
      (f, ap values_of (first_on n s i k z j e) ∙ values-joined z (heights n k s j) f)

  pub store-all : (k : ℕ) → k ≤ 0 → values_of (heights n k s i) ≡ []
  unfolding heights
  store-all zero h = refl
  store-all (suc k) h = absurd (omega arith)

-- the heights below i are stored, and those from there on are good
pub record Storing (n : ℤ) (s : List ℕ) (all : List ℤ) (at i : ℕ) (out : List ℤ) : Type 0 where
  pub good : Good (heights n (length out - i) s at)
  pub values : take i out ++ values_of (heights n (length out - i) s at) ≡ all

pub storing-more : (n : ℤ) (s : List ℕ) (all : List ℤ) (at i j : ℕ) (z y : ℤ) (out : List ℤ) → Storing n s all at i out → i < length out
    → height n s at ≡ got z j → y ≡ z → Storing n s all j (i + 1) (set out i y)
storing-more n s all at i j z y out w h e q =
    let r = store-on n s at (length out - i) z j (omega arith) w.good e in
    let m : length out - i - 1 ≡ length (set out i y) - (i + 1) = omega (arith, length-set out i y) in
    let rest = values_of (heights n (length out - i - 1) s j) in
    record {
      good = subst (λ (k : ℕ). Good (heights n k s j)) m r.0;
      values = subst (λ (k : ℕ). take (i + 1) (set out i y) ++ values_of (heights n k s j) ≡ all) m
          (filling-more out rest i y h ∙ ap (λ (x : ℤ). take i out ++ (x ∷ rest)) q ∙ ap (λ (x : List ℤ). take i out ++ x) (sym r.1) ∙ w.values);
    }

-- ---- the end

module _ (s : List ℕ) (at a : ℕ) (p : a ≡ word_start s at) where
  pub end-off : a < length s → refused 10 a ≡ end s at
  unfolding end
  end-off h = rw (word-found s at a p h)

  pub end_on : length s ≤ a → got tt at ≡ end s at
  unfolding end
  end_on h = rw (word_none s at a p h)

-- ---- what follows the header

-- what `forget` keeps
pub judged-good : (x : Step (List ℤ)) (j : ℕ) → forget x ≡ got tt j → Good x × (x ≡ got (values_of x) j)
judged-good (got hs i) j e = let q : i ≡ j = cc in (tt, ap (got hs) q)
judged-good (refused n p) j e = let z : ◌≡◌ {A = ℕ} 0 1 = cc in absurd (omega arith)

judged-off : (x : Step (List ℤ)) (n p : ℕ) → forget x ≡ refused n p → x ≡ refused n p
judged-off (got hs i) n p e = let z : ◌≡◌ {A = ℕ} 0 1 = cc in absurd (omega arith)
judged-off (refused m q) n p e = cc

module _ (h : H.Header) (k : ℕ) (s : List ℕ) (at : ℕ) where
  pub body-unlike : (k ≡ h.rows * h.columns → ⊥) → body h k s at ≡ refused 2 0
  unfolding body
  body-unlike e = rw (ne_eqb k (h.rows * h.columns) e)

  module _ (l : k ≡ h.rows * h.columns) where
    pub body-off : (m p : ℕ) → forget (heights h.no_data k s at) ≡ refused m p → body h k s at ≡ refused m p
    unfolding body
    body-off m p e = rw (eq-eqb k (h.rows * h.columns) l, judged-off (heights h.no_data k s at) m p e)

    module _ (j : ℕ) (e : forget (heights h.no_data k s at) ≡ got tt j) where
      pub body_more : (m p : ℕ) → end s j ≡ refused m p → body h k s at ≡ refused m p
      unfolding body
      body_more m p q = rw (eq-eqb k (h.rows * h.columns) l, (judged-good (heights h.no_data k s at) j e).1, q)

      pub body-on : (i : ℕ) → end s j ≡ got tt i → body h k s at ≡ got (values_of (heights h.no_data k s at)) i
      unfolding body
      body-on i q = rw (eq-eqb k (h.rows * h.columns) l, (judged-good (heights h.no_data k s at) j e).1, q)

-- ---- a header that stands alone

module _ (s : List ℕ) where
  pub lone-off : (m p : ℕ) → H.head s 0 ≡ refused m p → refusal m p ≡ lone_header_answer s
  unfolding lone_header H.header
  lone-off m p e = rw e

  module _ (x : H.Head) (j : ℕ) (e : H.head s 0 ≡ got x j) where
    pub lone-more : (m p : ℕ) → end s j ≡ refused m p → refusal m p ≡ lone_header_answer s
    unfolding lone_header H.header
    lone-more m p q = rw (e, q)

    pub lone-on : (i : ℕ) → end s j ≡ got tt i → accepted x.header ≡ lone_header_answer s
    unfolding lone_header H.header
    lone-on i q = rw (e, q)

-- ---- the whole text

module _ (lent : List ℤ) (s : List ℕ) where
  pub grid-off : (m p : ℕ) → H.head s 0 ≡ refused m p → record { answer = refusal m p; heights = lent } ≡ grid_answer lent s
  unfolding grid H.header
  grid-off m p e = rw e

  pub grid-on : (x : H.Head) (j : ℕ) → H.head s 0 ≡ got x j → body_answer x.header lent s j ≡ grid_answer lent s
  unfolding grid H.header
  grid-on x j e = rw e (go (body x.header (length lent) s j))
    where
      go : (y : Step (List ℤ)) → body_outcome x.header lent y ≡ grid_outcome lent (after y (λ hs. give (record { header = x.header; heights = hs })) s)
      go (got hs i) = refl
      go (refused n p) = refl

-- ---- the laws by which the check finds the steps of a reader that its proof file leaves out

pub ruleset of_height = (height-none, height-no-data, height-on, height-off)

pub ruleset of_end = (end-off, end_on)

pub ruleset of_body = (body-unlike, body_more, body-on)

pub ruleset of_lone_header = (lone-off, lone-more, lone-on)

pub ruleset of_grid = (grid-off)
