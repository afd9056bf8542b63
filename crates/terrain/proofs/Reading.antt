-- Laws for the reader: what the definitions compute is what docs/RULES.md says in words of trails, walks and runs, for every ground that the call accepts
-- (`passed-ready`). Assumes nothing.
use Rattle.std.proofs.Common.{◌≡◌, ℕ, ◌*◌, ◌<◌, ◌≤◌, true, false, List, length, get_or, ℤ, sym, ◌∙◌, ⊎_elim, arith, ltb-true, lt-ltb}
use native.Mathlib.Decide.{dec_lt}
use Rattle.laws.specs.Sums.{when}
use Rattle.laws.specs.Tests.{passed}
use Rattle.laws.proofs.Tests.{two}
use Rattle.laws.proofs.Sums.{greatest-ge, greatest-is, when-yes, when-no}
use Rattle.terrain.specs.Cells.{no_data, neighbour, Valid, Rim, levels_of, valid_at, rim_at}
use Rattle.terrain.specs.Filled.{filled_levels}
use Rattle.terrain.specs.Flat.{flat_at, flat_steps, Walk, there, walked}
use Rattle.terrain.specs.Trail.{Trail, Meets, steps, mapped_at, steps_in, passes_in, longest_of}
use Rattle.terrain.specs.InnerCells.{Ready}
use Rattle.terrain.specs.Answers.{Grids, judged, directions_by}
use Rattle.terrain.specs.declared.Source.{Source}
use Rattle.terrain.proofs.Neighbours.{rim-valid, rim-open, open-rim, valid-level, level-valid, level-invalid, none-level}
use Rattle.terrain.proofs.Filling.{filled-long, filled-above, filled-some, filled-valid}
use Rattle.terrain.proofs.Flats.{walk-least, steps-kept, steps-still, steps-small}
use Rattle.terrain.proofs.Trails.{meets-passes, passes-meets, trail-steps, steps-le, trail-of, mapped_in}
use Rattle.terrain.proofs.Receivers.{directed-falls}
use Rattle.terrain.proofs.Answers.{Chosen, accepted-ready, accepted-chosen}

-- each of two statements follows from the other
abbrev pub Same : Type 0 → Type 0 → Type 0
Same A B = (A → B) × (B → A)

module _ (rows cols : ℕ) (elevation : List ℤ) (ready : Ready rows cols elevation) where
  abbrev lv : List ℕ
  lv = filled_levels rows cols elevation

  long : length lv ≡ rows * cols
  long = filled-long rows cols elevation ready

  -- ---- valid cells and rim cells: one notion, and how it is computed

  -- of the ground
  pub valid_same : (x : ℕ) → Same (valid_at (levels_of elevation) x ≡ true) (Valid elevation x)
  valid_same x = ((λ e. level-valid ready x (ltb-true 0 (get_or (levels_of elevation) x 0) e)), (λ v. lt-ltb 0 (get_or (levels_of elevation) x 0) (valid-level ready x v)))

  -- of the filled heights
  pub filled-same : (x : ℕ) → Same (valid_at (filled_levels rows cols elevation) x ≡ true) (Valid elevation x)
  filled-same x =
      let e = filled-valid rows cols elevation ready x in
      ((λ h. (valid_same x).0 (sym e ∙ h)), (λ v. e ∙ (valid_same x).1 v))

  -- a rim cell of the filled heights, which the directions go by
  pub rim-same : (x : ℕ) → Same (rim_at rows cols (filled_levels rows cols elevation) x ≡ true) (Rim rows cols elevation x)
  rim-same x = (to, from)
    where
      open-same : (y : ℕ) → get_or lv y 0 ≡ 0 → get_or (levels_of elevation) y 0 ≡ 0
      open-same y e = elim (dec_lt 0 (get_or (levels_of elevation) y 0)) [ yes h ↦ absurd (omega (arith, filled-above rows cols elevation ready y h)) | no f ↦ omega arith ]

      to : rim_at rows cols lv x ≡ true → Rim rows cols elevation x
      to e =
          let o = rim-open rows cols lv x e in
          record { valid = (filled-same x).0 (rim-valid rows cols lv x e); bearing = o.0; small = o.1; none = level-invalid ready (neighbour rows cols x o.0) (open-same (neighbour rows cols x o.0) o.2) }

      from : Rim rows cols elevation x → rim_at rows cols lv x ≡ true
      from r = open-rim rows cols lv x r.bearing (ltb-true 0 (get_or lv x 0) ((filled-same x).1 r.valid)) r.small (shut (neighbour rows cols x r.bearing) r.none)
        where
          shut : (y : ℕ) → get_or elevation y no_data ≡ no_data → get_or lv y 0 ≡ 0
          shut y e = elim (dec_lt 0 (get_or lv y 0)) [ yes h ↦ absurd (omega (arith, filled-some rows cols elevation ready y h, none-level ready y e)) | no f ↦ omega arith ]

  -- ---- walks over a flat

  -- no walk over a flat has fewer steps
  pub fewest-least : {x : ℕ} (w : Walk rows cols (filled_levels rows cols elevation) x) → get_or (flat_steps rows cols (filled_levels rows cols elevation)) x 0 ≤ walked rows cols (filled_levels rows cols elevation) w
  fewest-least w = walk-least rows cols lv (flat_steps rows cols lv) (steps-kept rows cols lv long) (steps-still rows cols lv long) w

  -- and some walk has as many
  pub fewest-some : (x : ℕ) → Valid elevation x → (w : Walk rows cols (filled_levels rows cols elevation) x) × (walked rows cols (filled_levels rows cols elevation) w ≡ get_or (flat_steps rows cols (filled_levels rows cols elevation)) x 0)
  fewest-some x v = ⊎_elim flat other (two (flat_at rows cols lv x))
    where
      flat : flat_at rows cols lv x ≡ true → (w : Walk rows cols lv x) × (walked rows cols lv w ≡ get_or (flat_steps rows cols lv) x 0)
      flat f = let w = (steps-kept rows cols lv long).stands x f (steps-small rows cols elevation ready x) in (w.0, omega (arith, w.1, fewest-least w.0))

      other : flat_at rows cols lv x ≡ false → (w : Walk rows cols lv x) × (walked rows cols lv w ≡ get_or (flat_steps rows cols lv) x 0)
      other f = let w = there x (ltb-true 0 (get_or lv x 0) ((filled-same x).1 v)) f in (w, omega (arith, fewest-least w))

-- ---- trails along the directions of an accepted call, our own or given ones

module _ (rows cols : ℕ) (source : Source) (elevation : List ℤ) (g : Grids) (e : judged rows cols source elevation g ≡ passed) where
  abbrev dir : List ℕ
  dir = directions_by source rows cols elevation g.direction

  ready : Ready rows cols elevation
  ready = accepted-ready rows cols source elevation g e

  chosen : Chosen rows cols elevation dir
  chosen = accepted-chosen rows cols source elevation g e

  -- the number that falls along every trail: the steps that are left
  abbrev rank : ℕ → ℕ
  rank = steps_in rows cols dir (rows * cols)

  -- the valid cells of the directions are those of the ground
  pub mapped-same : (x : ℕ) → Same (mapped_at rows cols (directions_by source rows cols elevation g.direction) x ≡ true) (Valid elevation x)
  mapped-same x =
      let q = chosen.keeping.mapped x in
      ((λ h. (filled-same rows cols elevation ready x).0 (sym q ∙ h)), (λ v. q ∙ (filled-same rows cols elevation ready x).1 v))

  trail : (x : ℕ) → Valid elevation x → Trail rows cols dir x
  trail x v = trail-of rows cols dir rank (directed-falls chosen.directed) chosen.directed.drawn.stops x ((mapped-same x).1 v)

  -- the steps of the computation are those of the trail
  pub steps-same : {x : ℕ} (t : Trail rows cols (directions_by source rows cols elevation g.direction) x) → steps_in rows cols (directions_by source rows cols elevation g.direction) (rows * cols) x ≡ steps rows cols (directions_by source rows cols elevation g.direction) t
  steps-same t = trail-steps rows cols dir rank (directed-falls chosen.directed) t

  -- the flow count counts the trail of a cell exactly where the trail meets a cell
  pub passes_same : {x : ℕ} (t : Trail rows cols (directions_by source rows cols elevation g.direction) x) (z : ℕ) → Same (passes_in rows cols (directions_by source rows cols elevation g.direction) (rows * cols) x z ≡ 1) (Meets rows cols (directions_by source rows cols elevation g.direction) z t)
  passes_same {x} t z = (
    passes-meets rows cols dir t (rows * cols) z,
    meets-passes rows cols dir t (rows * cols) z (omega (arith, steps-same t, steps-le rows cols dir (rows * cols) x)),
  )

  -- the longest trail is at least as long as each
  pub longest-most : {x : ℕ} (t : Trail rows cols (directions_by source rows cols elevation g.direction) x) → Valid elevation x → steps rows cols (directions_by source rows cols elevation g.direction) t ≤ longest_of rows cols (directions_by source rows cols elevation g.direction)
  unfolding longest_of
  longest-most {x} t v =
      let m = (mapped-same x).1 v in
      omega (arith, steps-same t, when-yes (steps_in rows cols dir (rows * cols) x) m, greatest-ge (rows * cols) (λ y. when (mapped_at rows cols dir y) (steps_in rows cols dir (rows * cols) y)) x (mapped_in rows cols dir chosen.directed.drawn.long x m))

  -- and as long as some, where it has steps at all
  pub longest-some : 0 < longest_of rows cols (directions_by source rows cols elevation g.direction) → (x : ℕ) × Valid elevation x × ((t : Trail rows cols (directions_by source rows cols elevation g.direction) x) × (steps rows cols (directions_by source rows cols elevation g.direction) t ≡ longest_of rows cols (directions_by source rows cols elevation g.direction)))
  unfolding longest_of
  longest-some h =
      let i = greatest-is (rows * cols) (λ y. when (mapped_at rows cols dir y) (steps_in rows cols dir (rows * cols) y)) h in
      let x = i.0 in
      ⊎_elim
      (λ m. let v = (mapped-same x).0 m in let t = trail x v in (x, v, (t, sym (steps-same t) ∙ sym (when-yes (steps_in rows cols dir (rows * cols) x) m) ∙ i.2)))
      (λ m. absurd (omega (arith, i.2, when-no (steps_in rows cols dir (rows * cols) x) m)))
      (two (mapped_at rows cols dir x))
