-- The filled heights in the words of docs/RULES.md: the least greatest height of the runs, and the lowest surface that drains. Assumes nothing.
use Rattle.std.proofs.Common.{◌≡◌, ℕ, zero, suc, ◌<◌, ◌≤◌, List, get_or, ℤ, ◌≤ℤ◌, sym, ap, ◌∙◌, subst, arith}
use native.Mathlib.Decide.{dec_lt}
use Rattle.terrain.specs.Cells.{no_data, neighbour, Valid, level_of, height_of}
use Rattle.terrain.specs.InnerCells.{Ready}
use Rattle.terrain.specs.Surfaces.{Run, last, step, highest_of, RunNeverRises, Drained}
use Rattle.terrain.specs.Filled.{filled_levels, filled_of}
use Rattle.terrain.specs.Drainage.{surface_of}
use Rattle.terrain.proofs.Neighbours.{level-at, level-max, level-le, height-le, height-level, fine-at, valid-level}
use Rattle.terrain.proofs.Filling.{run-valid, still-least, filled-kept, filled-still, greatest-fine, filled-reached, filled-above, filled_at, level-filled}

module _ (rows cols : ℕ) (elevation : List ℤ) (ready : Ready rows cols elevation) where
  abbrev lv : List ℕ
  lv = filled_levels rows cols elevation

  abbrev s : ℕ → ℤ
  s = surface_of (filled_of rows cols elevation)

  abbrev R : ℕ → Type 0
  R = Run rows cols elevation

  run-least : {x : ℕ} (r : R x) → get_or lv x 0 ≤ level_of (highest_of rows cols elevation r)
  run-least r = still-least rows cols elevation ready lv (filled-kept rows cols elevation ready) (filled-still rows cols elevation ready) r

  above_zero : (x : ℕ) → Valid elevation x → 0 < get_or lv x 0
  above_zero x v = omega (arith, valid-level ready x v, filled-above rows cols elevation ready x (valid-level ready x v))

  -- a valid cell's filled height is at most any height whose level is at least its own
  pub filled-le : (x : ℕ) → Valid elevation x → (z : ℤ) → get_or (filled_levels rows cols elevation) x 0 ≤ level_of z → surface_of (filled_of rows cols elevation) x ≤ℤ z
  filled-le x v z h = subst (λ (y : ℤ). y ≤ℤ z) (sym (filled_at rows cols elevation ready x)) (height-le (get_or lv x 0) z (above_zero x v) h)

  -- no run stays below the filled height
  pub filled-least : {x : ℕ} (r : Run rows cols elevation x) → surface_of (filled_of rows cols elevation) x ≤ℤ highest_of rows cols elevation r
  filled-least {x} r = filled-le x (run-valid rows cols elevation ready r) (highest_of rows cols elevation r) (run-least r)

  -- and some run attains it
  pub filled-attained : (x : ℕ) → Valid elevation x → (r : Run rows cols elevation x) × (highest_of rows cols elevation r ≡ surface_of (filled_of rows cols elevation) x)
  filled-attained x v =
      let r = filled-reached rows cols elevation ready x (valid-level ready x v) in
      (r.0, sym (height-level (highest_of rows cols elevation r.0) (greatest-fine rows cols elevation ready r.0)) ∙ ap height_of r.1 ∙ sym (filled_at rows cols elevation ready x))

  -- ---- a run that never rises: along a lowest run the level stays, or falls, and then the lowest run from there goes on

  abbrev Drain : ℕ → Type 0
  Drain x = (q : R x) × RunNeverRises rows cols elevation s q

  on-down : (x k : ℕ) → Valid elevation x → k < 8 → get_or lv (neighbour rows cols x k) 0 ≤ get_or lv x 0 → Drain (neighbour rows cols x k) → Drain x
  on-down x k v h le q = (step x k v h q.0, (filled-le (neighbour rows cols x k) (run-valid rows cols elevation ready q.0) (s x) (omega (arith, level-filled rows cols elevation ready x)), q.1))

  follow : {x : ℕ} (r : R x) → level_of (highest_of rows cols elevation r) ≤ get_or lv x 0 → ((y : ℕ) → Valid elevation y → get_or lv y 0 < get_or lv x 0 → Drain y) → Drain x
  follow (last x r) h ih = (last x r, tt)
  follow (step x k v lt r) h ih =
      let m = level-max (get_or elevation x no_data) (highest_of rows cols elevation r) in
      elim (dec_lt (get_or lv (neighbour rows cols x k) 0) (get_or lv x 0)) [
        | yes less ↦ on-down x k v lt (omega arith) (ih (neighbour rows cols x k) (run-valid rows cols elevation ready r) less)
        | no f ↦ on-down x k v lt (omega (arith, run-least r)) (follow r (omega arith) (λ y w less. ih y w (omega (arith, run-least r))))
      ]

  drain-below : (n x : ℕ) → get_or lv x 0 < n → Valid elevation x → Drain x
  drain-below zero x h v = absurd (omega arith)
  drain-below (suc n) x h v =
      let r = filled-reached rows cols elevation ready x (valid-level ready x v) in
      follow r.0 (omega (arith, r.1)) (λ y w less. drain-below n y (omega arith) w)

  pub drain : (x : ℕ) → Valid elevation x → (r : Run rows cols elevation x) × RunNeverRises rows cols elevation (surface_of (filled_of rows cols elevation)) r
  drain x v = drain-below (suc (get_or lv x 0)) x (omega arith) v

  pub filled-drained : Drained rows cols elevation (surface_of (filled_of rows cols elevation))
  filled-drained = record { above = above; drains = drain }
    where
      above : (x : ℕ) → Valid elevation x → get_or elevation x no_data ≤ℤ s x
      above x v =
          subst (λ (z : ℤ). z ≤ℤ s x) (height-level (get_or elevation x no_data) (fine-at ready x))
          (height-le (level_of (get_or elevation x no_data)) (s x) (omega (arith, valid-level ready x v, level-at elevation x)) (omega (arith, level-at elevation x, filled-above rows cols elevation ready x (valid-level ready x v), level-filled rows cols elevation ready x)))

  -- every surface that drains is at least as high
  pub filled-lowest : (t : ℕ → ℤ) → Drained rows cols elevation t → (x : ℕ) → Valid elevation x → surface_of (filled_of rows cols elevation) x ≤ℤ t x
  filled-lowest t d x v = let r = d.drains x v in filled-le x v (t x) (omega (arith, run-least r.0, bound r.0 r.1))
    where
      bound : {y : ℕ} (r : R y) → RunNeverRises rows cols elevation t r → level_of (highest_of rows cols elevation r) ≤ level_of (t y)
      bound (last y r) n = level-le (get_or elevation y no_data) (t y) (d.above y r.valid)
      bound (step y k v h r) n = omega (arith, level-max (get_or elevation y no_data) (highest_of rows cols elevation r), level-le (get_or elevation y no_data) (t y) (d.above y v), level-le (t (neighbour rows cols y k)) (t y) n.0, bound r n.1)
