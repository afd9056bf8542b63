-- The rules of 17 as the code tests them, one cell at a time, and the tests 17 and 18 as it makes them. Assumes nothing.
use Rattle.std.proofs.Common.{◌≡◌, ℕ, ◌*◌, ◌<◌, ◌≤◌, Bool, true, false, cond, ◌&&◌, eqb, ltb, leb, Some, None, List, [], ◌∷◌, length, get_or, sym, refl, ap, ◌∙◌, arith, ltb-true, ltb-false, lt-ltb, le-ltb}
use lib.Count.{count_trailing_zeros}
use Rattle.laws.specs.Tests.{passed, failed, verdict}
use Rattle.laws.proofs.Lists.{get_or_any}
use Rattle.laws.proofs.Verdicts.{verdict-none, verdict-next, verdict-stops}
use Rattle.terrain.specs.Cells.{neighbour, code_of}
use Rattle.terrain.specs.Given.{kept_at, first_broken, first_ring, ring_test, given_tests}
use Rattle.terrain.specs.InnerLevels.{Levels, open_at}
use Rattle.terrain.specs.InnerGiven.{Keeping, cell_below}
use Rattle.terrain.proofs.Receivers.{bit-odd}
use Rattle.terrain.proofs.Keeping.{kept-none, kept_leaves, kept-points, kept-odd, code-passed, code-passes, code-fails, ring-passes, ring-fails}
use Rattle.terrain.proofs.InnerStepping.{open-rimmed}

module _ (rows cols : ℕ) (lv dir : List ℕ) (x : ℕ) (long : length dir ≡ rows * cols) (h : x < rows * cols) where
  read : get_or dir x 255 ≡ get_or dir x 0
  read = get_or_any dir x 255 0 (omega arith)

  -- the lowest bit of the code
  abbrev bit : ℕ
  bit = count_trailing_zeros 8 (get_or dir x 0)

  pub read_none : get_or lv x 0 < 1 → eqb (get_or dir x 0) 255 ≡ kept_at rows cols lv dir x
  read_none v = sym (kept-none rows cols lv dir x (omega arith) ∙ ap (λ (c : ℕ). eqb c 255) read)

  module _ (v : 1 ≤ get_or lv x 0) where
    pub read-leaves : {b : Bool} → get_or dir x 0 ≡ 0 → b ≡ open_at rows cols lv x 8 → b ≡ kept_at rows cols lv dir x
    read-leaves z e = e ∙ open-rimmed rows cols lv x v ∙ sym (kept_leaves rows cols lv dir x v (read ∙ z))

    pub read-odd : (get_or dir x 0 ≡ 0 → ⊥) → (count_trailing_zeros 8 (get_or dir x 0) < 8 → get_or dir x 0 ≡ code_of (count_trailing_zeros 8 (get_or dir x 0)) → ⊥) → false ≡ kept_at rows cols lv dir x
    read-odd z f = sym (kept-odd rows cols lv dir x v (λ e. z (sym read ∙ e)) (rw read (bit-odd (get_or dir x 0) f)))

    pub read-points : {y w : ℕ} → count_trailing_zeros 8 (get_or dir x 0) < 8 → get_or dir x 0 ≡ code_of (count_trailing_zeros 8 (get_or dir x 0)) → y ≡ neighbour rows cols x (count_trailing_zeros 8 (get_or dir x 0)) → w ≡ get_or lv y 0 → (ltb 0 w && leb w (get_or lv x 0)) ≡ kept_at rows cols lv dir x
    read-points {y} {w} l e n q = ap (λ (u : ℕ). ltb 0 u && leb u (get_or lv x 0)) (q ∙ ap (λ (i : ℕ). get_or lv i 0) n) ∙ sym (kept-points rows cols lv dir x bit v l (read ∙ e))

-- ---- the first of some cells, if there is one

pub below_is : {n k r : ℕ} → k < n → r ≡ k → Some k ≡ cell_below n r
below_is {n} {k} h e = sym (rw (e, lt-ltb k n h) refl)

pub below-none : {n r : ℕ} → r ≡ n → None ≡ cell_below n r
below-none {n} e = sym (rw (e, le-ltb n n (omega arith)) refl)

pub below-some : {n r k : ℕ} → Some k ≡ cell_below n r → (k ≡ r) × (k < n)
below-some {n} {r} {k} e = go (ltb r n) refl e
  where
    go : (b : Bool) → ltb r n ≡ b → Some k ≡ cond b (Some r) None → (k ≡ r) × (k < n)
    go true h q = let s : k ≡ r = cc in (s, omega (arith, ltb-true r n h))
    go false h q = cc

pub below-past : {n r : ℕ} → None ≡ cell_below n r → n ≤ r
below-past {n} {r} e = go (ltb r n) refl e
  where
    go : (b : Bool) → ltb r n ≡ b → None ≡ cond b (Some r) None → n ≤ r
    go true h q = cc
    go false h q = ltb-false r n h

-- ---- the tests, as the code makes them

module _ (rows cols : ℕ) (lv dir : List ℕ) {b : ℕ} (e : b ≡ first_broken rows cols lv dir) where
  pub told-broken : b < rows * cols → failed 17 b ≡ verdict (given_tests rows cols lv dir)
  told-broken h = ap (failed 17) e ∙ sym (verdict-stops (ring_test rows cols dir ∷ []) (code-fails rows cols lv dir (omega arith)))

  module _ (h : rows * cols ≤ b) where
    next : verdict (given_tests rows cols lv dir) ≡ verdict (ring_test rows cols dir ∷ [])
    next = verdict-next (ring_test rows cols dir ∷ []) (code-passes rows cols lv dir (omega arith))

    pub told-keeping : Levels rows cols lv → length dir ≡ rows * cols → Keeping rows cols lv dir
    told-keeping l long = code-passed l long (code-passes rows cols lv dir (omega arith))

    module _ {r : ℕ} (q : r ≡ first_ring rows cols dir) where
      pub told-ring : r < rows * cols → failed 18 r ≡ verdict (given_tests rows cols lv dir)
      told-ring l = ap (failed 18) q ∙ sym (next ∙ verdict-stops [] (ring-fails rows cols dir (omega arith)))

      pub told-sound : rows * cols ≤ r → passed ≡ verdict (given_tests rows cols lv dir)
      told-sound l = sym (next ∙ verdict-next [] (ring-passes rows cols dir (omega arith)) ∙ verdict-none)
