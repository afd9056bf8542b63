-- What the functions that follow trails assume of a grid of directions, and what they answer: only inner functions cite this file. Assumes nothing.
use Rattle.std.specs.Prelude.{◌≡◌, ℕ, ◌*◌, ◌<◌, true, false, List, length, slice_index_or}
use Rattle.terrain.specs.Trail.{mapped_at, flows_at, next_at, steps_in}
use Rattle.terrain.specs.InnerCells.{Sized}

-- a grid of codes along which every trail stays on valid cells; one may go round
pub record Drawn (rows cols : ℕ) (dir : List ℕ) : Type 0 where
  pub sized : Sized rows cols
  pub long : length dir ≡ rows * cols
  -- a code is that of a bearing, 0 or 255
  pub stops : (x : ℕ) → mapped_at rows cols dir x ≡ true → flows_at rows cols dir x ≡ false → slice_index_or dir x 255 ≡ 0
  -- a valid cell points at a valid cell
  pub stays : (x : ℕ) → flows_at rows cols dir x ≡ true → mapped_at rows cols dir (next_at rows cols dir x) ≡ true

-- one along which every trail ends
pub record Directed (rows cols : ℕ) (dir : List ℕ) : Type 0 where
  pub drawn : Drawn rows cols dir
  -- a cell is further from the end of its trail than the one that it points at
  pub less : (x : ℕ) → flows_at rows cols dir x ≡ true → steps_in rows cols dir (rows * cols) (next_at rows cols dir x) < steps_in rows cols dir (rows * cols) x
