-- The falls that are written with the directions are those of the map: a cell with a lower neighbour drops towards the one of its direction, any other does not drop. Assumes nothing.
use Rattle.std.proofs.Common.{◌≡◌, ℕ, ◌+◌, ◌-◌, ◌*◌, ◌%◌, ◌<◌, ◌≤◌, Bool, true, false, cond, List, get_or, sym, refl, ap, ◌∙◌, ⊎_elim, arith, le-ltb, lt-ltb}
use native.Mathlib.Decide.{dec_lt}
use Rattle.laws.specs.Lists.{tab}
use Rattle.laws.proofs.Tests.{two}
use Rattle.laws.proofs.Lists.{tab-ext}
use Rattle.laws.proofs.First.{first-top, first_holds}
use Rattle.terrain.specs.Cells.{neighbour, code_of, bearing_of, valid_at, rim_at}
use Rattle.terrain.specs.Flat.{has_lower, flat_steps}
use Rattle.terrain.specs.Direction.{steep_bearing, nearer_at, nearer_bearing, direction_at, directions_of}
use Rattle.terrain.specs.Falls.{fall_of, drop_at, fall_at, falls_of}
use Rattle.terrain.specs.InnerLevels.{drop_of, steepest_in, bearing_fall, fall_down_at}
use Rattle.terrain.proofs.Neighbours.{bearing-code, code-small}
use Rattle.terrain.proofs.Flats.{lower-is}
use Rattle.terrain.proofs.Directions.{steep-bearing, nearer-is, direction-at, direction-none}
use Rattle.terrain.proofs.Trails.{is_mapped, mapped-none, code-flows, code-next, zero-stops}

-- no drop, no fall
fall-flat : (k : ℕ) → fall_of k 0 ≡ 0
unfolding fall_of
fall-flat k = refl

fall-some : (k d : ℕ) → 0 < d → fall_of k d ≡ 2 * d + k % 2
unfolding fall_of
fall-some k d h = ap (λ (b : Bool). cond b (2 * d + k % 2) 0) (lt-ltb 0 d h)

-- the drop to a lower level
dropped : {v w : ℕ} → 0 < w → w < v → drop_of v w ≡ v - w
unfolding drop_of
dropped {v} {w} p q = rw (lt-ltb 0 w p, lt-ltb w v q)

-- the code of a valid cell
code_by : (valid lower rim : Bool) (down along : ℕ) {b c : Bool} → valid ≡ true → lower ≡ b → rim ≡ c → cond valid (cond lower down (cond rim 0 along)) 255 ≡ cond b down (cond c 0 along)
code_by valid lower rim down along v l r = rw (v, l, r)

module _ (rows cols : ℕ) (lv : List ℕ) where
  abbrev dir : List ℕ
  dir = directions_of rows cols lv

  abbrev st : List ℕ
  st = flat_steps rows cols lv

  abbrev nb : ℕ → ℕ → ℕ
  nb = neighbour rows cols

  -- ---- drops, by the code of the cell

  drop-over : (x k : ℕ) → k < 8 → get_or dir x 255 ≡ code_of k → drop_at rows cols lv dir x ≡ get_or lv x 0 - get_or lv (nb x k) 0
  unfolding drop_at
  drop-over x k h e = rw (code-flows rows cols dir x k h e, code-next rows cols dir x k h e)

  drop-leaves : (x : ℕ) → get_or dir x 255 ≡ 0 → drop_at rows cols lv dir x ≡ 0
  unfolding drop_at
  drop-leaves x e = rw (zero-stops rows cols dir x e)

  drop-level : (x k : ℕ) → get_or dir x 255 ≡ code_of k → (k < 8 → get_or lv (nb x k) 0 ≡ get_or lv x 0) → k ≤ 8 → drop_at rows cols lv dir x ≡ 0
  drop-level x k e q h =
      elim (dec_lt k 8) [
        | yes l ↦ omega (arith, drop-over x k l e, q l)
        | no f ↦ let g : k ≡ 8 = omega arith in drop-leaves x (e ∙ ap code_of g)
      ]

  -- ---- the fall of a valid cell

  fall-valid : (x : ℕ) → (get_or dir x 255 ≡ 255 → ⊥) → fall_at rows cols lv dir x ≡ fall_of (bearing_of (get_or dir x 255)) (drop_at rows cols lv dir x)
  unfolding fall_at
  fall-valid x e = rw (is_mapped rows cols dir x e)

  module _ (x : ℕ) (h : x < rows * cols) (v : 0 < get_or lv x 0) where
    direction-by : {b c : Bool} → has_lower rows cols lv x ≡ b → rim_at rows cols lv x ≡ c → get_or dir x 255 ≡ cond b (code_of (steep_bearing rows cols lv x)) (cond c 0 (code_of (nearer_bearing rows cols lv st x)))
    unfolding direction_at
    direction-by e q = direction-at rows cols lv x h ∙ code_by (valid_at lv x) (has_lower rows cols lv x) (rim_at rows cols lv x) (code_of (steep_bearing rows cols lv x)) (code_of (nearer_bearing rows cols lv st x)) (lt-ltb 0 (get_or lv x 0) v) e q

    lower-fall : has_lower rows cols lv x ≡ true → bearing_fall rows cols lv x (steep_bearing rows cols lv x) ≡ fall_at rows cols lv dir x
    lower-fall e =
        let k = steep_bearing rows cols lv x in
        let s = steep-bearing rows cols lv x e in
        let l = lower-is rows cols lv x k s.1 in
        let c : get_or dir x 255 ≡ code_of k = direction-by e refl in
        let d = get_or lv x 0 - get_or lv (nb x k) 0 in
        sym (
        fall-valid x (λ q. omega (arith, c, code-small k))
        ∙ ap (λ (m : ℕ). fall_of (bearing_of (get_or dir x 255)) m) (drop-over x k s.0 c)
        ∙ ap (λ (j : ℕ). fall_of j d) (ap bearing_of c ∙ bearing-code k s.0)
        ∙ fall-some k d (omega arith)
        ∙ ap (λ (m : ℕ). 2 * m + k % 2) (sym (dropped l.0 l.1))
        )

    still-fall : get_or dir x 255 ≤ 128 → drop_at rows cols lv dir x ≡ 0 → 0 ≡ fall_at rows cols lv dir x
    still-fall s d = sym (fall-valid x (λ q. omega arith) ∙ ap (fall_of (bearing_of (get_or dir x 255))) d ∙ fall-flat (bearing_of (get_or dir x 255)))

    -- a flat cell points along its level
    along : rim_at rows cols lv x ≡ false → has_lower rows cols lv x ≡ false → drop_at rows cols lv dir x ≡ 0
    unfolding nearer_bearing
    along q e =
        let p = nearer_at rows cols lv st x in
        drop-level x (nearer_bearing rows cols lv st x) (direction-by e q) (λ l. (nearer-is rows cols lv st x (nearer_bearing rows cols lv st x) (first_holds p 8 l)).0) (first-top p 8)

    flat-fall : has_lower rows cols lv x ≡ false → 0 ≡ fall_at rows cols lv dir x
    flat-fall e =
        ⊎_elim (λ q. let c = direction-by e q in still-fall (omega (arith, c)) (drop-leaves x c))
        (λ q. let c = direction-by e q in still-fall (omega (arith, c, code-small (nearer_bearing rows cols lv st x))) (along q e)) (two (rim_at rows cols lv x))

  -- ---- the grid

  fall-down : (x : ℕ) → x < rows * cols → fall_down_at rows cols lv x ≡ fall_at rows cols lv dir x
  unfolding fall_down_at steepest_in fall_at
  fall-down x h =
      elim (dec_lt 0 (get_or lv x 0)) [
        | yes v ↦ rw (lt-ltb 0 (get_or lv x 0) v) (⊎_elim (λ e. rw e (lower-fall x h v e)) (λ e. rw e (flat-fall x h v e)) (two (has_lower rows cols lv x)))
        | no f ↦ rw (le-ltb 0 (get_or lv x 0) (omega arith), mapped-none rows cols dir x (direction-none rows cols lv x (omega arith)))
      ]

  pub falls-written : tab (rows * cols) (fall_down_at rows cols lv) ≡ falls_of rows cols lv (directions_of rows cols lv)
  unfolding falls_of
  falls-written = tab-ext (rows * cols) (fall_down_at rows cols lv) (fall_at rows cols lv dir) 0 fall-down
