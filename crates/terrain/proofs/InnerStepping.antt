-- Laws of the steps over flats one by one: where they start, and what a sweep lowers. Assumes nothing.
use Rattle.std.proofs.Common.{◌≡◌, ℕ, zero, suc, ◌+◌, ◌^◌, ◌<◌, ◌≤◌, Bool, true, false, cond, not, ◌&&◌, ◌||◌, eqb, ltb, List, get_or, set, ℤ, pos, sym, refl, ap, ◌∙◌, ⊎_elim, true≢false, add-one, arith, w32, to_z, of_z, ltb-false, ltb-true, le-ltb, lt-ltb, ne_eqb}
use native.Mathlib.Decide.{dec_lt, ℕ_discrete}
use Rattle.laws.proofs.Tests.{two}
use Rattle.laws.proofs.Settle.{relax-lower, relax-pass}
use Rattle.terrain.specs.Cells.{neighbour, code_of, valid_at, rim_at}
use Rattle.terrain.specs.Flat.{far_steps, has_lower, flat_at, nearest_of, flat_stepping}
use Rattle.terrain.specs.Direction.{steep_bearing}
use Rattle.terrain.specs.InnerLevels.{open_at, start_at, steepest_in, down_at, LoweredSteps}
use Rattle.terrain.proofs.Neighbours.{code-some, rim-open, open-rim}
use Rattle.terrain.proofs.Flats.{flat-valid, flat-high}
use Rattle.terrain.proofs.Directions.{steep-bearing}

-- an entry of the queue is the cell's index
pub entry-is : (x : ℕ) → x < 1048576 → to_z w32 x ≡ pos x
entry-is x h = rw (lt-ltb x (2 ^ 31) (omega arith)) refl

pub cell-is : (z : ℤ) (x : ℕ) → x < 1048576 → z ≡ pos x → to_z w32 (of_z w32 z) ≡ pos x
cell-is z x h e = ap (λ (y : ℤ). to_z w32 (of_z w32 y)) e ∙ entry-is x h

-- ---- where a cell starts

-- a level below 1 is no valid cell's
below_one : (n : ℕ) → ltb n 1 ≡ not (ltb 0 n)
below_one n = elim (dec_lt 0 n) [ yes h ↦ le-ltb n 1 (omega arith) ∙ sym (ap not (lt-ltb 0 n h)) | no f ↦ lt-ltb n 1 (omega arith) ∙ sym (ap not (le-ltb 0 n (omega arith))) ]

or_else : (a b : Bool) → (a || b) ≡ true → a ≡ false → b ≡ true
or_else true b e q = absurd (true≢false q)
or_else false b e q = e

module _ (rows cols : ℕ) (lv : List ℕ) (x : ℕ) where
  abbrev nb : ℕ → ℕ
  nb = neighbour rows cols x

  -- the neighbours passed, one by one
  pub open_none : false ≡ open_at rows cols lv x 0
  unfolding open_at
  open_none = refl

  pub open_more : (k : ℕ) {b : Bool} {n : ℕ} → b ≡ open_at rows cols lv x k → n ≡ get_or lv (neighbour rows cols x k) 0 → (b || ltb n 1) ≡ open_at rows cols lv x (k + 1)
  unfolding open_at
  open_more k {b} {n} e q = rw add-one (ap (λ (c : Bool). c || ltb n 1) e ∙ ap (λ (c : Bool). open_at rows cols lv x k || c) (below_one n ∙ ap (λ (m : ℕ). not (ltb 0 m)) q))

  -- some neighbour is at 0, or all are valid
  open_is : (k : ℕ) → open_at rows cols lv x k ≡ true → (j : ℕ) × (j < k) × (get_or lv (neighbour rows cols x j) 0 ≡ 0)
  unfolding open_at
  open_is zero e = absurd (true≢false (sym e))
  open_is (suc k) e =
      ⊎_elim (λ t. let i = open_is k t in (i.0, omega (arith, i.1), i.2))
      (λ f. (k, omega arith, omega (arith, ltb-true (get_or lv (nb k) 0) 1 (below_one (get_or lv (nb k) 0) ∙ or_else (open_at rows cols lv x k) (not (valid_at lv (nb k))) e f))))
      (two (open_at rows cols lv x k))

  shut-is : (k : ℕ) → open_at rows cols lv x k ≡ false → (j : ℕ) → j < k → 0 < get_or lv (neighbour rows cols x j) 0
  unfolding open_at
  shut-is zero e j h = absurd (omega arith)
  shut-is (suc k) e j h =
      elim (ℕ_discrete j k) [
        | yes q ↦ omega (arith, ap (λ (i : ℕ). get_or lv (nb i) 0) q, ltb-false (get_or lv (nb k) 0) 1 (below_one (get_or lv (nb k) 0) ∙ (nor (open_at rows cols lv x k) (not (valid_at lv (nb k))) e).1))
        | no f ↦ shut-is k (nor (open_at rows cols lv x k) (not (valid_at lv (nb k))) e).0 j (omega arith)
      ]
    where
      nor : (a b : Bool) → (a || b) ≡ false → (a ≡ false) × (b ≡ false)
      nor true b e = absurd (true≢false e)
      nor false b e = (refl, e)

  no-rim : open_at rows cols lv x 8 ≡ false → rim_at rows cols lv x ≡ false
  no-rim e = ⊎_elim (λ r. let i = rim-open rows cols lv x r in absurd (omega (arith, shut-is 8 e i.0 i.1, i.2))) (λ r. r) (two (rim_at rows cols lv x))

  -- a valid cell is a rim cell just if one is open
  pub open-rimmed : 0 < get_or lv x 0 → open_at rows cols lv x 8 ≡ rim_at rows cols lv x
  open-rimmed v = ⊎_elim (λ e. let i = open_is 8 e in e ∙ sym (open-rim rows cols lv x i.0 v i.1 i.2)) (λ e. e ∙ sym (no-rim e)) (two (open_at rows cols lv x 8))

  -- so a cell with no lower neighbour is flat just if none is open
  flat-told : (eqb (down_at rows cols lv x) 0 && not (open_at rows cols lv x 8)) ≡ flat_at rows cols lv x
  unfolding down_at steepest_in flat_at
  flat-told = ⊎_elim opened shut (two (open_at rows cols lv x 8))
    where
      none : (a : Bool) → (a && false) ≡ false
      none true = refl
      none false = refl

      not-flat : open_at rows cols lv x 8 ≡ true → flat_at rows cols lv x ≡ false
      not-flat e = ⊎_elim (λ f. let i = open_is 8 e in absurd (omega (arith, flat-high rows cols lv x i.0 f i.1, flat-valid rows cols lv x f, i.2))) (λ f. f) (two (flat_at rows cols lv x))

      opened : open_at rows cols lv x 8 ≡ true → (eqb (down_at rows cols lv x) 0 && not (open_at rows cols lv x 8)) ≡ flat_at rows cols lv x
      opened e = ap (λ (b : Bool). eqb (down_at rows cols lv x) 0 && not b) e ∙ none (eqb (down_at rows cols lv x) 0) ∙ sym (not-flat e)

      code : (v l : Bool) → valid_at lv x ≡ v → has_lower rows cols lv x ≡ l → eqb (cond v (cond l (code_of (steep_bearing rows cols lv x)) 0) 255) 0 ≡ (v && not (l || false))
      code true true p q = ne_eqb (code_of (steep_bearing rows cols lv x)) 0 (λ e. omega (arith, code-some (steep_bearing rows cols lv x) (steep-bearing rows cols lv x q).0))
      code true false p q = refl
      code false l p q = refl

      shut : open_at rows cols lv x 8 ≡ false → (eqb (down_at rows cols lv x) 0 && not (open_at rows cols lv x 8)) ≡ flat_at rows cols lv x
      shut e =
          ap (λ (b : Bool). eqb (down_at rows cols lv x) 0 && not b) e ∙ whole (eqb (down_at rows cols lv x) 0) ∙ code (valid_at lv x) (has_lower rows cols lv x) refl refl
          ∙ ap (λ (b : Bool). valid_at lv x && not (has_lower rows cols lv x || b)) (sym (no-rim e))
        where
          whole : (a : Bool) → (a && true) ≡ a
          whole true = refl
          whole false = refl

  pub start-told : {c r : ℕ} {o : Bool} → c ≡ down_at rows cols lv x → o ≡ open_at rows cols lv x 8 → r ≡ cond (eqb c 0 && not o) far_steps 0 → r ≡ start_at rows cols lv x
  unfolding start_at
  start-told {c} {o = o} e q h = h ∙ ap (λ (b : Bool). cond b far_steps 0) (ap (λ (n : ℕ). eqb n 0 && not o) e ∙ ap (λ (b : Bool). eqb (down_at rows cols lv x) 0 && not b) q ∙ flat-told)

-- ---- lowering one cell

module _ (rows cols : ℕ) (lv d : List ℕ) (x o : ℕ) (e : o ≡ nearest_of rows cols lv d x 8 + 1) where
  pub steps-lowered : o < get_or d x 0 → LoweredSteps rows cols lv d (set d x o) x true
  steps-lowered h = let r = relax-lower (flat_stepping rows cols lv) d x o e h in record { told = r.0; is = r.1 }

  pub steps-passed : get_or d x 0 ≤ o → LoweredSteps rows cols lv d d x false
  steps-passed h = let r = relax-pass (flat_stepping rows cols lv) d x o e h in record { told = r.0; is = r.1 }
