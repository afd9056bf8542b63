-- An accepted grid of directions, whoever drew it, is a drainage: each trail stays on valid cells, never rises, never meets a cell twice and leaves at the rim, what leaves is
-- what is on the map, and the filled heights are the lowest surface that drains. Assumes nothing.
use Rattle.std.proofs.Common.{◌≡◌, ℕ, ◌*◌, ◌<◌, ◌≤◌, Bool, true, false, cond, not, eqb, List, get_or, ℤ, sym, refl, ap, ◌∙◌, subst, ⊎_elim, arith, ltb-true, lt-ltb, eq-eqb, ne_eqb}
use native.Mathlib.Decide.{ℕ_discrete}
use Rattle.laws.specs.Sums.{when}
use Rattle.laws.proofs.Tests.{two}
use Rattle.laws.proofs.Sums.{sum-ext, when-yes, when-no, when-zero}
use Rattle.terrain.specs.Cells.{neighbour, code_of, bearing_of, Valid, Rim, levels_of, valid_at}
use Rattle.terrain.specs.InnerCells.{Ready}
use Rattle.terrain.specs.InnerTrail.{Directed}
use Rattle.terrain.specs.InnerGiven.{Keeping}
use Rattle.terrain.specs.Filled.{filled_levels, filled_of}
use Rattle.terrain.specs.Trail.{Trail, ends, goes, OnValid, TrailNeverRises, Meets, NeverTwice, last_of, valids_of, mapped_at, flows_at, next_at, steps_in, count_at, counts_of}
use Rattle.terrain.specs.Drainage.{surface_of, outflow_of, Drainage}
use Rattle.terrain.specs.Answers.{ground_valids}
use Rattle.terrain.proofs.Neighbours.{code-some, rim-open, valid-level, level-valid, level-invalid}
use Rattle.terrain.proofs.Filling.{filled-above, filled-some, filled-valid, level-filled}
use Rattle.terrain.proofs.Surfaces.{filled-le, filled-least, filled-attained, filled-drained, filled-lowest}
use Rattle.terrain.proofs.Trails.{code-flows, code-next, flows-code, steps-le, trail-of, leaves_at, total-leaves, counts-at}
use Rattle.terrain.proofs.Receivers.{directed-falls}

module _ (rows cols : ℕ) (elevation : List ℤ) (dir : List ℕ) (ready : Ready rows cols elevation) (kept : Keeping rows cols (filled_levels rows cols elevation) dir) (led : Directed rows cols dir) where
  abbrev lv : List ℕ
  lv = filled_levels rows cols elevation

  abbrev nb : ℕ → ℕ → ℕ
  nb = neighbour rows cols

  -- the number that falls along every trail: the steps that are left
  abbrev rank : ℕ → ℕ
  rank = steps_in rows cols dir (rows * cols)

  level-of : (x : ℕ) → Valid elevation x → 0 < get_or lv x 0
  level-of x v = let g = valid-level ready x v in omega (arith, filled-above rows cols elevation ready x g)

  valid-of : (x : ℕ) → 0 < get_or lv x 0 → Valid elevation x
  valid-of x v = level-valid ready x (filled-some rows cols elevation ready x v)

  mapped-level : (x : ℕ) → mapped_at rows cols dir x ≡ true → 0 < get_or lv x 0
  mapped-level x e = ltb-true 0 (get_or lv x 0) (sym (kept.mapped x) ∙ e)

  level-mapped : (x : ℕ) → 0 < get_or lv x 0 → mapped_at rows cols dir x ≡ true
  level-mapped x v = kept.mapped x ∙ lt-ltb 0 (get_or lv x 0) v

  -- ---- one step of a trail

  record Step (x y : ℕ) : Type 0 where
    valid : 0 < get_or lv y 0
    le : get_or lv y 0 ≤ get_or lv x 0
    less : rank y < rank x

  step_of : (x k : ℕ) → k < 8 → get_or dir x 255 ≡ code_of k → Step x (nb x k)
  step_of x k h e =
      let q = code-flows rows cols dir x k h e in
      subst (Step x) (code-next rows cols dir x k h e) (record { valid = mapped-level (next_at rows cols dir x) (led.drawn.stays x q); le = kept.falls x q; less = led.less x q })

  -- ---- trails

  trails : (x : ℕ) → Valid elevation x → Trail rows cols dir x
  trails x v = trail-of rows cols dir rank (directed-falls led) led.drawn.stops x (level-mapped x (level-of x v))

  step-valid : (x k : ℕ) → Valid elevation x → k < 8 → get_or dir x 255 ≡ code_of k → Valid elevation (nb x k)
  step-valid x k v h e = valid-of (nb x k) (step_of x k h e).valid

  stays : {x : ℕ} (t : Trail rows cols dir x) → Valid elevation x → OnValid rows cols dir elevation t
  stays (ends x e) v = v
  stays (goes x k h e t) v = (v, stays t (step-valid x k v h e))

  never-rises : {x : ℕ} (t : Trail rows cols dir x) → Valid elevation x → TrailNeverRises rows cols dir (surface_of (filled_of rows cols elevation)) t
  never-rises (ends x e) v = tt
  never-rises (goes x k h e t) v =
      let w = step-valid x k v h e in
      (filled-le rows cols elevation ready (nb x k) w (surface_of (filled_of rows cols elevation) x) (omega (arith, (step_of x k h e).le, level-filled rows cols elevation ready x)), never-rises t w)

  meets-le : {x : ℕ} (t : Trail rows cols dir x) → Valid elevation x → (z : ℕ) → Meets rows cols dir z t → rank z ≤ rank x
  meets-le (ends x e) v z m = omega (arith, ap rank m)
  meets-le (goes x k h e t) v z m = ⊎_elim (λ q. omega (arith, ap rank q)) (λ q. omega (arith, meets-le t (step-valid x k v h e) z q, (step_of x k h e).less)) m

  never-twice : {x : ℕ} (t : Trail rows cols dir x) → Valid elevation x → NeverTwice rows cols dir t
  never-twice (ends x e) v = tt
  never-twice (goes x k h e t) v = let w = step-valid x k v h e in ((λ m. omega (arith, meets-le t w x m, (step_of x k h e).less)), never-twice t w)

  rim-of : (x : ℕ) → Valid elevation x → get_or dir x 255 ≡ 0 → Rim rows cols elevation x
  rim-of x v e =
      let o = rim-open rows cols lv x (kept.leaves x e) in
      let y = nb x o.0 in
      record {
        valid = v;
        bearing = o.0;
        small = o.1;
        none = level-invalid ready y (elim (ℕ_discrete (get_or (levels_of elevation) y 0) 0) [ yes z ↦ z | no f ↦ absurd (omega (arith, o.2, filled-above rows cols elevation ready y (omega arith))) ]);
      }

  leaves-rim : {x : ℕ} (t : Trail rows cols dir x) → Valid elevation x → Rim rows cols elevation (last_of rows cols dir t) × (get_or dir (last_of rows cols dir t) 255 ≡ 0)
  leaves-rim (ends x e) v = (rim-of x v e, e)
  leaves-rim (goes x k h e t) v = leaves-rim t (step-valid x k v h e)

  -- ---- counts

  rank-le : (x : ℕ) → rank x ≤ rows * cols
  rank-le x = steps-le rows cols dir (rows * cols) x

  leaving : (x : ℕ) → x < rows * cols → when (eqb (get_or dir x 255) 0) (get_or (counts_of rows cols dir) x 0) ≡ when (leaves_at rows cols dir rank (directed-falls led) x) (count_at rows cols dir x)
  leaving x h = ⊎_elim mapped none (two (mapped_at rows cols dir x))
    where
      at : get_or (counts_of rows cols dir) x 0 ≡ when (mapped_at rows cols dir x) (count_at rows cols dir x)
      at = counts-at rows cols dir x h

      zero_is : mapped_at rows cols dir x ≡ true → eqb (get_or dir x 255) 0 ≡ not (flows_at rows cols dir x)
      zero_is v =
          ⊎_elim (λ q. let c = flows-code rows cols dir x q in ne_eqb (get_or dir x 255) 0 (λ z. omega (arith, c.1, code-some (bearing_of (get_or dir x 255)) c.0)) ∙ sym (ap not q))
          (λ q. eq-eqb (get_or dir x 255) 0 (led.drawn.stops x v q) ∙ sym (ap not q)) (two (flows_at rows cols dir x))

      mapped : mapped_at rows cols dir x ≡ true → when (eqb (get_or dir x 255) 0) (get_or (counts_of rows cols dir) x 0) ≡ when (leaves_at rows cols dir rank (directed-falls led) x) (count_at rows cols dir x)
      mapped v =
          ap (when (eqb (get_or dir x 255) 0)) (at ∙ when-yes (count_at rows cols dir x) v)
          ∙ ap (λ (b : Bool). when b (count_at rows cols dir x)) (zero_is v ∙ sym (ap (λ (b : Bool). cond b (not (flows_at rows cols dir x)) false) v))

      none : mapped_at rows cols dir x ≡ false → when (eqb (get_or dir x 255) 0) (get_or (counts_of rows cols dir) x 0) ≡ when (leaves_at rows cols dir rank (directed-falls led) x) (count_at rows cols dir x)
      none v =
          ap (when (eqb (get_or dir x 255) 0)) (at ∙ when-no (count_at rows cols dir x) v) ∙ when-zero (eqb (get_or dir x 255) 0)
          ∙ sym (when-no (count_at rows cols dir x) (ap (λ (b : Bool). cond b (not (flows_at rows cols dir x)) false) v))

  whole : outflow_of rows cols dir (counts_of rows cols dir) ≡ valids_of rows cols (levels_of elevation)
  unfolding valids_of
  whole =
      sum-ext (rows * cols) (λ x. when (eqb (get_or dir x 255) 0) (get_or (counts_of rows cols dir) x 0)) (λ x. when (leaves_at rows cols dir rank (directed-falls led) x) (count_at rows cols dir x)) leaving
      ∙ total-leaves rows cols dir rank (directed-falls led) rank-le
      ∙ sum-ext (rows * cols) (λ x. when (mapped_at rows cols dir x) 1) (λ x. when (valid_at (levels_of elevation) x) 1) (λ x l. ap (λ (b : Bool). when b 1) (kept.mapped x ∙ filled-valid rows cols elevation ready x))

  pub drainage : Drainage rows cols elevation (filled_of rows cols elevation) dir (counts_of rows cols dir) (ground_valids rows cols elevation)
  unfolding ground_valids
  drainage =
      record {
        trails = record { trails = trails; stays = stays; falls = never-rises; once = never-twice; leaves = leaves-rim };
        totals = record { valids = refl; outflow = whole };
        surface =
            record {
              drained = filled-drained rows cols elevation ready;
              lowest = filled-lowest rows cols elevation ready;
              reached = filled-attained rows cols elevation ready;
              least = filled-least rows cols elevation ready;
            };
      }
