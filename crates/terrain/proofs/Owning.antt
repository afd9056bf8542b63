-- Our own directions are always accepted: they keep the rules of 17, and a number falls along every trail, so that none goes round. Assumes nothing.
use Rattle.std.proofs.Common.{◌≡◌, ℕ, ◌+◌, ◌*◌, ◌<◌, ◌≤◌, true, false, ◌&&◌, List, length, get_or, ℤ, sym, ap, ◌∙◌, subst, ap₂, true≢false, arith, ltb-true, le-ltb, lt-ltb, eq-eqb, le-leb}
use native.Mathlib.Decide.{dec_lt}
use Rattle.laws.specs.Tests.{passed, verdict}
use Rattle.laws.proofs.Lists.{in_list}
use Rattle.terrain.specs.Cells.{neighbour, code_of, bearing_of, valid_at}
use Rattle.terrain.specs.InnerCells.{Ready}
use Rattle.terrain.specs.Filled.{filled_levels}
use Rattle.terrain.specs.Flat.{far_steps, flat_steps}
use Rattle.terrain.specs.Direction.{directions_of}
use Rattle.terrain.specs.Trail.{mapped_at, flows_at, next_at}
use Rattle.terrain.specs.Given.{kept_at, given_tests}
use Rattle.terrain.specs.InnerTrail.{Directed}
use Rattle.terrain.specs.InnerLevels.{Levels}
use Rattle.terrain.specs.InnerGiven.{Keeping}
use Rattle.terrain.specs.Answers.{ground_directions}
use Rattle.terrain.proofs.Neighbours.{bearing-code, code-some, code-small, open-rim}
use Rattle.terrain.proofs.Filling.{filled-long, filled-small}
use Rattle.terrain.proofs.Flats.{steps-kept, steps-still, steps-small}
use Rattle.terrain.proofs.Directions.{Points, down, along, leaves, points, directions-long, direction-at, direction-none}
use Rattle.terrain.proofs.Trails.{Falls, is_mapped, mapped-none, code-flows, code-next, flows-code, flows-mapped, rank_falls}
use Rattle.terrain.proofs.Rings.{directed-ringless}
use Rattle.terrain.proofs.Keeping.{kept-none, kept_leaves, kept-points, kept-keeping, given-passes}
use Rattle.terrain.proofs.InnerInterior.{ready-sized}

module _ (rows cols : ℕ) (elevation : List ℤ) (ready : Ready rows cols elevation) where
  abbrev lv : List ℕ
  lv = filled_levels rows cols elevation

  abbrev st : List ℕ
  st = flat_steps rows cols lv

  abbrev dir : List ℕ
  dir = directions_of rows cols lv

  abbrev nb : ℕ → ℕ → ℕ
  nb = neighbour rows cols

  abbrev long : length lv ≡ rows * cols
  long = filled-long rows cols elevation ready

  -- the number that falls along every trail: the level first, then the flat steps
  abbrev pub potential : ℕ → ℕ
  potential x = get_or (filled_levels rows cols elevation) x 0 * far_steps + get_or (flat_steps rows cols (filled_levels rows cols elevation)) x 0

  -- ---- one step of a trail

  kind : (x : ℕ) → 0 < get_or lv x 0 → Points rows cols lv st x (get_or dir x 255)
  kind x v =
      subst (Points rows cols lv st x) (sym (direction-at rows cols lv x (omega (arith, in_list lv x v, long))))
      (points rows cols lv st (steps-kept rows cols lv long) (steps-still rows cols lv long) x v (steps-small rows cols elevation ready x))

  record Step (x y : ℕ) : Type 0 where
    valid : 0 < get_or lv y 0
    le : get_or lv y 0 ≤ get_or lv x 0
    less : potential y < potential x

  same-bearing : (j k : ℕ) → j < 8 → k < 8 → code_of j ≡ code_of k → j ≡ k
  same-bearing j k g h e = sym (bearing-code j g) ∙ ap bearing_of e ∙ bearing-code k h

  step_of : (x k : ℕ) → 0 < get_or lv x 0 → k < 8 → get_or dir x 255 ≡ code_of k → Step x (nb x k)
  step_of x k v h e = go (kind x v)
    where
      move : (j : ℕ) → j < 8 → get_or dir x 255 ≡ code_of j → Step x (nb x j) → Step x (nb x k)
      move j g q s = subst (λ (i : ℕ). Step x (nb x i)) (same-bearing j k g h (sym q ∙ e)) s

      go : Points rows cols lv st x (get_or dir x 255) → Step x (nb x k)
      go (down j g q p l) = move j g q (record { valid = p; le = omega arith; less = omega (arith, steps-small rows cols elevation ready (nb x j)) })
      go (along j g q p s) = move j g q (record { valid = omega arith; le = omega arith; less = omega arith })
      go (leaves j g q o) = absurd (omega (arith, code-some k h))

  pub mapped-valid : (x : ℕ) → mapped_at rows cols (directions_of rows cols (filled_levels rows cols elevation)) x ≡ valid_at (filled_levels rows cols elevation) x
  mapped-valid x =
      elim (dec_lt 0 (get_or lv x 0)) [
        | yes v ↦ is_mapped rows cols dir x (λ q. go v q (kind x v)) ∙ sym (lt-ltb 0 (get_or lv x 0) v)
        | no f ↦ mapped-none rows cols dir x (direction-none rows cols lv x (omega arith)) ∙ sym (le-ltb 0 (get_or lv x 0) (omega arith))
      ]
    where
      go : 0 < get_or lv x 0 → get_or dir x 255 ≡ 255 → Points rows cols lv st x (get_or dir x 255) → ⊥
      go v q (down j g e p l) = omega (arith, code-small j)
      go v q (along j g e p s) = omega (arith, code-small j)
      go v q (leaves j g e o) = omega arith

  mapped-level : (x : ℕ) → mapped_at rows cols dir x ≡ true → 0 < get_or lv x 0
  mapped-level x e = ltb-true 0 (get_or lv x 0) (sym (mapped-valid x) ∙ e)

  level-mapped : (x : ℕ) → 0 < get_or lv x 0 → mapped_at rows cols dir x ≡ true
  level-mapped x v = mapped-valid x ∙ lt-ltb 0 (get_or lv x 0) v

  pub falls : Falls rows cols (directions_of rows cols (filled_levels rows cols elevation)) potential
  falls = record { long = directions-long rows cols lv; stays = (λ x q. level-mapped (next_at rows cols dir x) (on x q).valid); less = (λ x q. (on x q).less) }
    where
      on : (x : ℕ) → flows_at rows cols dir x ≡ true → Step x (next_at rows cols dir x)
      on x q =
          let c = flows-code rows cols dir x q in
          subst (Step x) (sym (code-next rows cols dir x (bearing_of (get_or dir x 255)) c.0 c.1)) (step_of x (bearing_of (get_or dir x 255)) (mapped-level x (flows-mapped rows cols dir x q)) c.0 c.1)

  -- a valid cell that points at no neighbour has direction 0
  pub stops-zero : (x : ℕ) → mapped_at rows cols (directions_of rows cols (filled_levels rows cols elevation)) x ≡ true → flows_at rows cols (directions_of rows cols (filled_levels rows cols elevation)) x ≡ false → get_or (directions_of rows cols (filled_levels rows cols elevation)) x 255 ≡ 0
  stops-zero x v q = go (kind x (mapped-level x v))
    where
      go : Points rows cols lv st x (get_or dir x 255) → get_or dir x 255 ≡ 0
      go (down j g e p l) = absurd (true≢false (sym (code-flows rows cols dir x j g e) ∙ q))
      go (along j g e p s) = absurd (true≢false (sym (code-flows rows cols dir x j g e) ∙ q))
      go (leaves j g e o) = e

  -- ---- they keep the rules of 17

  own-kept : (x : ℕ) → x < rows * cols → kept_at rows cols lv dir x ≡ true
  own-kept x h =
      elim (dec_lt 0 (get_or lv x 0)) [
        | yes v ↦ go v (kind x v)
        | no f ↦ kept-none rows cols lv dir x (omega arith) ∙ eq-eqb (get_or dir x 255) 255 (direction-none rows cols lv x (omega arith))
      ]
    where
      points-at : (k : ℕ) → 0 < get_or lv x 0 → k < 8 → get_or dir x 255 ≡ code_of k → 0 < get_or lv (nb x k) 0 → get_or lv (nb x k) 0 ≤ get_or lv x 0 → kept_at rows cols lv dir x ≡ true
      points-at k v g e p l = kept-points rows cols lv dir x k v g e ∙ ap₂ ◌&&◌ (lt-ltb 0 (get_or lv (nb x k) 0) p) (le-leb (get_or lv (nb x k) 0) (get_or lv x 0) l)

      go : 0 < get_or lv x 0 → Points rows cols lv st x (get_or dir x 255) → kept_at rows cols lv dir x ≡ true
      go v (down j g e p l) = points-at j v g e p (omega arith)
      go v (along j g e p s) = points-at j v g e (omega arith) (omega arith)
      go v (leaves j g e o) = kept_leaves rows cols lv dir x v e ∙ open-rim rows cols lv x j v g o

  pub own-levels : Levels rows cols (filled_levels rows cols elevation)
  own-levels = record { sized = ready-sized ready; long = long; capped = (λ x. omega (arith, filled-small rows cols elevation ready x)) }

  pub own-keeping : Keeping rows cols (filled_levels rows cols elevation) (ground_directions rows cols elevation)
  unfolding ground_directions
  own-keeping = kept-keeping rows cols lv dir own-levels (directions-long rows cols lv) own-kept

  pub own-directed : Directed rows cols (ground_directions rows cols elevation)
  unfolding ground_directions
  own-directed = let f = rank_falls rows cols dir potential falls in record { drawn = own-keeping.drawn; less = f.less }

  -- the tests of a given grid are passed
  pub own-accepted : verdict (given_tests rows cols (filled_levels rows cols elevation) (ground_directions rows cols elevation)) ≡ passed
  unfolding ground_directions
  own-accepted = given-passes rows cols lv dir own-kept (λ x h. directed-ringless own-directed x)
