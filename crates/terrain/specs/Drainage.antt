-- What RULES 4.6 demands of a map, in its own words: over the ground and the grids that a call gives. Assumes nothing.
use Rattle.std.specs.Prelude.{◌≡◌, ℕ, ◌*◌, List, ℤ, ◌≤ℤ◌, ◌==◌, slice_index, slice_index_or}
use Rattle.laws.specs.Sums.{sum_to, when}
use Rattle.terrain.specs.Cells.{no_data, Valid, Rim, levels_of}
use Rattle.terrain.specs.Surfaces.{Run, highest_of, Drained}
use Rattle.terrain.specs.Trail.{valids_of, Trail, OnValid, TrailNeverRises, NeverTwice, last_of}

-- the surface of a grid of heights
abbrev pub surface_of : List ℤ → ℕ → ℤ
surface_of heights x = slice_index_or heights x no_data

-- the counts of the cells with direction 0, each taken once
abbrev pub outflow_of : ℕ → ℕ → List ℕ → List ℕ → ℕ
outflow_of rows cols direction count = sum_to (rows * cols) (λ x. when (slice_index_or direction x 255 == 0) (slice_index count x))

-- the trails of a map
pub record Trails (rows cols : ℕ) (elevation filled : List ℤ) (direction : List ℕ) : Type 0 where
  -- each valid cell has a trail, which ends
  pub trails : (x : ℕ) → Valid elevation x → Trail rows cols direction x
  -- each trail stays on valid cells
  pub stays : {x : ℕ} (t : Trail rows cols direction x) → Valid elevation x → OnValid rows cols direction elevation t
  -- never rises on the filled heights
  pub falls : {x : ℕ} (t : Trail rows cols direction x) → Valid elevation x → TrailNeverRises rows cols direction (surface_of filled) t
  -- never meets a cell twice
  pub once : {x : ℕ} (t : Trail rows cols direction x) → Valid elevation x → NeverTwice rows cols direction t
  -- and ends at a rim cell with direction 0
  pub leaves : {x : ℕ} (t : Trail rows cols direction x) → Valid elevation x → Rim rows cols elevation (last_of rows cols direction t) × (slice_index_or direction (last_of rows cols direction t) 255 ≡ 0)

-- The flow counts of the cells where trails leave add up to the number of valid cells, and the answer gives that number
pub record Totals (rows cols : ℕ) (elevation : List ℤ) (direction count : List ℕ) (given : ℕ) : Type 0 where
  pub valids : given ≡ valids_of rows cols (levels_of elevation)
  pub outflow : outflow_of rows cols direction count ≡ given

-- the filled surface
pub record Surface (rows cols : ℕ) (elevation filled : List ℤ) : Type 0 where
  -- the filled heights are at or above the ground, and from each valid cell a run that never rises on them reaches a rim cell
  pub drained : Drained rows cols elevation (surface_of filled)
  -- every surface of which these two are true is at least as high at every valid cell
  pub lowest : (s : ℕ → ℤ) → Drained rows cols elevation s → (x : ℕ) → Valid elevation x → surface_of filled x ≤ℤ s x
  -- the filled height is the greatest ground height of some run
  pub reached : (x : ℕ) → Valid elevation x → (r : Run rows cols elevation x) × (highest_of rows cols elevation r ≡ surface_of filled x)
  -- and no run stays below it
  pub least : {x : ℕ} (r : Run rows cols elevation x) → surface_of filled x ≤ℤ highest_of rows cols elevation r

pub record Drainage (rows cols : ℕ) (elevation filled : List ℤ) (direction count : List ℕ) (given : ℕ) : Type 0 where
  pub trails : Trails rows cols elevation filled direction
  pub totals : Totals rows cols elevation direction count given
  pub surface : Surface rows cols elevation filled
