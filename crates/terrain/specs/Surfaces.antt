-- RULES 4.2: runs of valid neighbours, surfaces, and what it is for a surface to drain. Assumes nothing.
use Rattle.std.specs.Prelude.{ℕ, ◌<◌, cond, List, ℤ, ◌≤ℤ◌, int_le, slice_index_or}
use Rattle.terrain.specs.Cells.{no_data, neighbour, Valid, Rim}

-- the greater of two heights
abbrev pub max_z : ℤ → ℤ → ℤ
max_z a b = cond (int_le a b) b a

module _ (rows cols : ℕ) (elevation : List ℤ) where
  -- A run of valid neighbours is one or more valid cells, each after the first a neighbour of the one before; a rim cell alone is a run:
  -- a run from the cell x to a rim cell
  pub data Run : ℕ → Type 0 where
    last : (x : ℕ) → Rim rows cols elevation x → Run x
    step : (x k : ℕ) → Valid elevation x → k < 8 → Run (neighbour rows cols x k) → Run x

  -- the greatest ground height on the run, both ends counted
  abbrev pub highest_of : {x : ℕ} → Run x → ℤ
  highest_of (last x r) = slice_index_or elevation x no_data
  highest_of (step x k v h r) = max_z (slice_index_or elevation x no_data) (highest_of r)

  -- A run never rises on a surface if no cell of it is higher there than the cell before.
  -- A surface gives every valid cell a whole number of cm, of any size; what s is at any other index does not matter.
  abbrev pub RunNeverRises : (ℕ → ℤ) → {x : ℕ} → Run x → Type 0
  RunNeverRises s (last x r) = Unit {0}
  RunNeverRises s (step x k v h r) = (s (neighbour rows cols x k) ≤ℤ s x) × RunNeverRises s r

  -- a surface at or above the ground, on which from each valid cell a run that never rises reaches a rim cell
  pub record Drained (s : ℕ → ℤ) : Type 0 where
    pub above : (x : ℕ) → Valid elevation x → slice_index_or elevation x no_data ≤ℤ s x
    pub drains : (x : ℕ) → Valid elevation x → (r : Run x) × RunNeverRises s r
