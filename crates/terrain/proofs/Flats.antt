-- Flat cells and their steps: no walk is shorter, and there are fewer steps than cells. Assumes nothing.
use Rattle.std.proofs.Common.{◌≡◌, ℕ, zero, suc, ◌+◌, ◌*◌, ◌<◌, ◌≤◌, min, Bool, true, false, cond, not, ◌&&◌, ◌||◌, eqb, ltb, List, length, get_or, ℤ, sym, refl, ap, ◌∙◌, ⊎_elim, true≢false, add-one, arith, ltb-true, lt-ltb, eq-eqb, ne_eqb}
use native.Mathlib.Decide.{dec_le, dec_lt, ℕ_discrete}
use Rattle.laws.specs.Settle.{Rule}
use Rattle.laws.proofs.Tests.{two, and_both}
use Rattle.laws.proofs.Lists.{in_list}
use Rattle.laws.proofs.First.{none-at}
use Rattle.laws.proofs.Pigeon.{pigeon}
use Rattle.laws.proofs.Settle.{settled-done, done-is}
use Rattle.terrain.specs.Cells.{neighbour, valid_at, rim_at, levels_of}
use Rattle.terrain.specs.InnerCells.{Ready}
use Rattle.terrain.specs.Surfaces.{Run, last, step, RunNeverRises}
use Rattle.terrain.specs.Filled.{filled_levels, filled_of}
use Rattle.terrain.specs.Flat.{far_steps, lower_at, has_lower, flat_at, seen_at, nearest_of, flat_stepping, flat_steps, Walk, there, on, walked}
use Rattle.terrain.specs.InnerFlats.{Within, StepsKept, StepsStill}
use Rattle.terrain.specs.Drainage.{surface_of}
use Rattle.terrain.proofs.Neighbours.{inland-valid, level-le, none-level, level-valid, valid-level}
use Rattle.terrain.proofs.Filling.{filled-long, filled-clear, filled-some, filled-above, level-filled}
use Rattle.terrain.proofs.Surfaces.{drain}

nor : (a b : Bool) → not (a || b) ≡ true → (a ≡ false) × (b ≡ false)
nor true b e = absurd (true≢false (sym e))
nor false true e = absurd (true≢false (sym e))
nor false false e = (refl, refl)

flat-of : (a b c : Bool) → a ≡ true → b ≡ false → c ≡ false → (a && not (b || c)) ≡ true
flat-of a b c p q r = rw (p, q, r)

-- ---- what a flat cell is, by levels: no bearing is lower, where what is not valid is at 0

module _ (rows cols : ℕ) (lv : List ℕ) where
  abbrev nb : ℕ → ℕ → ℕ
  nb = neighbour rows cols

  pub flat-valid : (x : ℕ) → flat_at rows cols lv x ≡ true → 0 < get_or lv x 0
  unfolding flat_at
  flat-valid x e = ltb-true 0 (get_or lv x 0) (and_both (valid_at lv x) _ e).0

  pub flat-is : (x : ℕ) → 0 < get_or lv x 0 → has_lower rows cols lv x ≡ false → rim_at rows cols lv x ≡ false → flat_at rows cols lv x ≡ true
  unfolding flat_at
  flat-is x v l r = flat-of (valid_at lv x) (has_lower rows cols lv x) (rim_at rows cols lv x) (lt-ltb 0 (get_or lv x 0) v) l r

  pub lower-is : (x k : ℕ) → lower_at rows cols lv x k ≡ true → (0 < get_or lv (neighbour rows cols x k) 0) × (get_or lv (neighbour rows cols x k) 0 < get_or lv x 0)
  lower-is x k e = let w = and_both (ltb 0 (get_or lv (nb x k) 0)) (ltb (get_or lv (nb x k) 0) (get_or lv x 0)) e in (ltb-true 0 (get_or lv (nb x k) 0) w.0, ltb-true (get_or lv (nb x k) 0) (get_or lv x 0) w.1)

  pub is-lower : (x k : ℕ) → 0 < get_or lv (neighbour rows cols x k) 0 → get_or lv (neighbour rows cols x k) 0 < get_or lv x 0 → lower_at rows cols lv x k ≡ true
  is-lower x k p l = simp (lt-ltb 0 (get_or lv (nb x k) 0) p, lt-ltb (get_or lv (nb x k) 0) (get_or lv x 0) l)

  pub flat-inland : (x : ℕ) → flat_at rows cols lv x ≡ true → (has_lower rows cols lv x ≡ false) × (rim_at rows cols lv x ≡ false)
  unfolding flat_at
  flat-inland x e = nor (has_lower rows cols lv x) (rim_at rows cols lv x) (and_both (valid_at lv x) (not (has_lower rows cols lv x || rim_at rows cols lv x)) e).1

  pub flat-high : (x k : ℕ) → flat_at rows cols lv x ≡ true → k < 8 → get_or lv x 0 ≤ get_or lv (neighbour rows cols x k) 0
  unfolding has_lower
  flat-high x k e h =
      let n = flat-inland x e in
      elim (dec_lt (get_or lv (nb x k) 0) (get_or lv x 0))
      [ yes l ↦ absurd (true≢false (sym (is-lower x k (inland-valid rows cols lv x k (flat-valid x e) n.1 h) l) ∙ none-at (lower_at rows cols lv x) 8 k n.0 h)) | no f ↦ omega arith ]

  pub low-not-flat : (x k : ℕ) → k < 8 → get_or lv (neighbour rows cols x k) 0 < get_or lv x 0 → flat_at rows cols lv x ≡ false
  low-not-flat x k h l = ⊎_elim (λ e. absurd (omega (arith, flat-high x k e h))) (λ e. e) (two (flat_at rows cols lv x))

  -- ---- the nearest neighbour of the same level

  pub nearest-none : (d : List ℕ) (x : ℕ) → nearest_of rows cols lv d x 0 ≡ far_steps
  unfolding nearest_of
  nearest-none d x = refl

  pub nearest-more : (d : List ℕ) (x k : ℕ) → nearest_of rows cols lv d x (k + 1) ≡ min (nearest_of rows cols lv d x k) (seen_at rows cols lv d x k)
  unfolding nearest_of
  nearest-more d x k = rw add-one

  pub nearest-far : (d : List ℕ) (x k : ℕ) → nearest_of rows cols lv d x k ≤ far_steps
  unfolding nearest_of
  nearest-far d x zero = omega arith
  nearest-far d x (suc k) = omega (arith, nearest-far d x k)

  pub nearest-le : (d : List ℕ) (x k n : ℕ) → k < n → nearest_of rows cols lv d x n ≤ seen_at rows cols lv d x k
  unfolding nearest_of
  nearest-le d x k zero h = absurd (omega arith)
  nearest-le d x k (suc n) h = elim (ℕ_discrete k n) [ yes e ↦ omega (arith, ap (seen_at rows cols lv d x) e) | no f ↦ omega (arith, nearest-le d x k n (omega arith)) ]

  pub nearest-is : (d : List ℕ) (x n : ℕ) → nearest_of rows cols lv d x n < far_steps → (k : ℕ) × (k < n) × (seen_at rows cols lv d x k ≡ nearest_of rows cols lv d x n)
  unfolding nearest_of
  nearest-is d x zero h = absurd (omega arith)
  nearest-is d x (suc n) h =
      elim (dec_le (nearest_of rows cols lv d x n) (seen_at rows cols lv d x n))
      [ yes le ↦ (let i = nearest-is d x n (omega arith) in (i.0, omega (arith, i.1), omega (arith, i.2))) | no f ↦ (n, omega arith, omega arith) ]

  pub seen_same : (d : List ℕ) (x k : ℕ) → get_or lv (neighbour rows cols x k) 0 ≡ get_or lv x 0 → seen_at rows cols lv d x k ≡ get_or d (neighbour rows cols x k) 0
  seen_same d x k e = simp (eq-eqb (get_or lv (nb x k) 0) (get_or lv x 0) e)

  pub seen-level : (d : List ℕ) (x k : ℕ) → seen_at rows cols lv d x k < far_steps → get_or lv (neighbour rows cols x k) 0 ≡ get_or lv x 0
  seen-level d x k h = elim (ℕ_discrete (get_or lv (nb x k) 0) (get_or lv x 0)) [ yes e ↦ e | no f ↦ absurd (other (ne_eqb (get_or lv (nb x k) 0) (get_or lv x 0) f)) ]
    where
      other : eqb (get_or lv (nb x k) 0) (get_or lv x 0) ≡ false → ⊥
      other e = omega (arith, rw e at h)

  -- steps above 0 that stay above 0 are still so for the nearest
  seen-some : (d e : List ℕ) (x k : ℕ) → ((z : ℕ) → 0 < get_or d z 0 → 0 < get_or e z 0) → 0 < seen_at rows cols lv d x k → 0 < seen_at rows cols lv e x k
  seen-some d e x k f = go (eqb (get_or lv (nb x k) 0) (get_or lv x 0))
    where
      go : (b : Bool) → 0 < cond b (get_or d (nb x k) 0) far_steps → 0 < cond b (get_or e (nb x k) 0) far_steps
      go true h = f (nb x k) h
      go false h = h

  pub nearest-some : (d e : List ℕ) (x n : ℕ) → ((z : ℕ) → 0 < get_or d z 0 → 0 < get_or e z 0) → 0 < nearest_of rows cols lv d x n → 0 < nearest_of rows cols lv e x n
  unfolding nearest_of
  nearest-some d e x zero f h = omega arith
  nearest-some d e x (suc n) f h = omega (arith, nearest-some d e x n f (omega arith), seen-some d e x n f (omega arith))

  -- ---- the rule

  -- a flat cell beside one of its level that can stand at d's steps can stand at one more
  pub within-beside : (d : List ℕ) → StepsKept rows cols lv d → (x k v : ℕ) → 0 < get_or lv x 0 → k < 8 → get_or lv (neighbour rows cols x k) 0 ≡ get_or lv x 0 → get_or d (neighbour rows cols x k) 0 < far_steps → get_or d (neighbour rows cols x k) 0 + 1 ≤ v → Within rows cols lv x v
  within-beside d kept x k v p h e l le =
      ⊎_elim
      (λ f. let w = kept.stands (nb x k) f l in (on x k p h e w.0, omega (arith, w.1)))
      (λ f. (on x k p h e (there (nb x k) (omega arith) f), omega arith))
      (two (flat_at rows cols lv (nb x k)))

  -- no walk is shorter than a list that no offer lowers says
  pub walk-least : (d : List ℕ) → StepsKept rows cols lv d → StepsStill rows cols lv d → {x : ℕ} (w : Walk rows cols lv x) → get_or d x 0 ≤ walked rows cols lv w
  walk-least d k s (there x v h) = omega (arith, k.clear x h)
  walk-least d k s (on x j v h e w) =
      ⊎_elim (λ q. omega (arith, s x q, nearest-le d x j 8 h, seen_same d x j e, walk-least d k s w)) (λ q. omega (arith, k.clear x q)) (two (flat_at rows cols lv x))

  module _ (long : length lv ≡ rows * cols) where
    pub flat-rule : Rule (flat_stepping rows cols lv) (Within rows cols lv)
    flat-rule =
        record {
          within = (λ x f. omega (arith, in_list lv x (flat-valid x f)));
          fair = (λ d k x f h. let i = nearest-is d x 8 (omega arith) in let e = seen-level d x i.0 (omega (arith, i.2)) in within-beside d k x i.0 _ (flat-valid x f) i.1 e (omega (arith, i.2, seen_same d x i.0 e)) (omega (arith, i.2, seen_same d x i.0 e)));
          least = (λ d k s x f b w. omega (arith, walk-least d k s w.0, w.1));
        }

    -- the definition, and any list like it
    pub steps-kept : StepsKept rows cols lv (flat_steps rows cols lv)
    unfolding flat_steps
    steps-kept = (settled-done (flat_stepping rows cols lv) (Within rows cols lv) flat-rule).0

    pub steps-still : StepsStill rows cols lv (flat_steps rows cols lv)
    unfolding flat_steps
    steps-still = (settled-done (flat_stepping rows cols lv) (Within rows cols lv) flat-rule).1

    pub steps-are : (d : List ℕ) → StepsKept rows cols lv d → StepsStill rows cols lv d → d ≡ flat_steps rows cols lv
    unfolding flat_steps
    steps-are d k s = done-is (flat_stepping rows cols lv) (Within rows cols lv) flat-rule d k s

    -- along a walk every number of steps up to the first cell's is some cell's
    hit : (d : List ℕ) → StepsKept rows cols lv d → StepsStill rows cols lv d → {x : ℕ} (w : Walk rows cols lv x) (b : ℕ) → b ≤ get_or d x 0 → (y : ℕ) × (y < rows * cols) × (get_or d y 0 ≡ b)
    hit d k s (there x v h) b le = (x, omega (arith, in_list lv x v), omega (arith, k.clear x h))
    hit d k s (on x j v h e w) b le =
        elim (ℕ_discrete b (get_or d x 0)) [
          | yes q ↦ (x, omega (arith, in_list lv x v), sym q)
          | no f ↦ hit d k s w b (⊎_elim (λ q. omega (arith, s x q, nearest-le d x j 8 h, seen_same d x j e)) (λ q. absurd (omega (arith, k.clear x q))) (two (flat_at rows cols lv x)))
        ]

    -- so there are fewer steps than cells
    pub steps-few : (d : List ℕ) → StepsKept rows cols lv d → StepsStill rows cols lv d → {x : ℕ} → Walk rows cols lv x → get_or d x 0 < rows * cols
    steps-few d k s {x} w =
        pigeon (rows * cols) (suc (get_or d x 0)) (λ b. cell b (dec_le b (get_or d x 0)))
        (record {
          below = (λ b h. (at b (omega arith) (dec_le b (get_or d x 0))).0);
          differ = (λ b c lt h e. omega (arith, (at b (omega arith) (dec_le b (get_or d x 0))).1, (at c (omega arith) (dec_le c (get_or d x 0))).1, ap (λ (y : ℕ). get_or d y 0) e));
        })
      where
        cell : (b : ℕ) → Dec (b ≤ get_or d x 0) → ℕ
        cell b (yes le) = (hit d k s w b le).0
        cell b (no f) = 0

        at : (b : ℕ) → b ≤ get_or d x 0 → (q : Dec (b ≤ get_or d x 0)) → (cell b q < rows * cols) × (get_or d (cell b q) 0 ≡ b)
        at b le (yes h) = ((hit d k s w b h).1, (hit d k s w b h).2)
        at b le (no f) = absurd (f le)

-- ---- the filled levels: a run that never rises begins with a walk

module _ (rows cols : ℕ) (elevation : List ℤ) (ready : Ready rows cols elevation) where
  abbrev lv : List ℕ
  lv = filled_levels rows cols elevation

  above : (x : ℕ) → 0 < get_or (levels_of elevation) x 0 → 0 < get_or lv x 0
  above x v = omega (arith, filled-above rows cols elevation ready x v)

  walk_of : {x : ℕ} (r : Run rows cols elevation x) → RunNeverRises rows cols elevation (surface_of (filled_of rows cols elevation)) r → Walk rows cols lv x
  walk_of (last x r) f =
      let v = above x (valid-level ready x r.valid) in
      there x v (low-not-flat rows cols lv x r.bearing r.small (omega (arith, filled-clear rows cols elevation ready (neighbour rows cols x r.bearing) (none-level ready (neighbour rows cols x r.bearing) r.none))))
  walk_of (step x k v h r) f =
      let p = above x (valid-level ready x v) in
      let le = level-le (surface_of (filled_of rows cols elevation) (neighbour rows cols x k)) (surface_of (filled_of rows cols elevation) x) f.0 in
      elim (ℕ_discrete (get_or lv (neighbour rows cols x k) 0) (get_or lv x 0)) [
        | yes e ↦ on x k p h e (walk_of r f.1)
        | no d ↦ there x p (low-not-flat rows cols lv x k h (omega (arith, level-filled rows cols elevation ready x, level-filled rows cols elevation ready (neighbour rows cols x k))))
      ]

  pub walks : (x : ℕ) → 0 < get_or (filled_levels rows cols elevation) x 0 → Walk rows cols (filled_levels rows cols elevation) x
  walks x v = let q = drain rows cols elevation ready x (level-valid ready x (filled-some rows cols elevation ready x v)) in walk_of q.0 q.1

  pub steps-small : (x : ℕ) → get_or (flat_steps rows cols (filled_levels rows cols elevation)) x 0 < far_steps
  steps-small x =
      let long = filled-long rows cols elevation ready in
      let k = steps-kept rows cols lv long in
      ⊎_elim (λ f. omega (arith, ready.small, steps-few rows cols lv long (flat_steps rows cols lv) k (steps-still rows cols lv long) (walks x (flat-valid rows cols lv x f))))
      (λ f. omega (arith, k.clear x f)) (two (flat_at rows cols lv x))
