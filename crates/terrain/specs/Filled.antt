-- RULES 4.2: Filled height: over all runs of valid neighbours from the cell to a rim cell, the least possible greatest ground height on the run.
-- Here as a computation, lowered until still; `Drainage` states that it is that least height. Assumes nothing.
use Rattle.std.specs.Prelude.{ℕ, zero, suc, ◌*◌, min, max, List, map, ℤ, slice_index}
use Rattle.laws.specs.Settle.{Lowering, settled_of}
use Rattle.terrain.specs.Cells.{neighbour, levels_of, height_of, valid_at}

-- above every accepted height's level
abbrev pub top : ℕ
top = 1900000

-- the lowest of l at the first k bearings of x; what is not valid is at 0
unfoldable pub lowest_of : ℕ → ℕ → List ℕ → ℕ → ℕ → ℕ
unfolding neighbour
lowest_of rows cols l x zero = top
lowest_of rows cols l x (suc k) = min (lowest_of rows cols l x k) (slice_index l (neighbour rows cols x k))

-- a valid cell stands at the higher of its ground and its lowest neighbour; a rim cell sees a 0, so it stands at its ground
abbrev pub filling : ℕ → ℕ → List ℕ → Lowering
filling rows cols g =
    record {
      size = rows * cols;
      far = top;
      active = λ x. valid_at g x;
      offer = λ l x. max (slice_index g x) (lowest_of rows cols l x 8);
    }

-- the filled levels
unfoldable pub filled_levels : ℕ → ℕ → List ℤ → List ℕ
unfolding settled_of lowest_of levels_of
filled_levels rows cols elevation = settled_of (filling rows cols (levels_of elevation))

-- the filled heights; a NoData cell has filled height -999,900
unfoldable pub filled_of : ℕ → ℕ → List ℤ → List ℤ
unfolding filled_levels height_of
filled_of rows cols elevation = map height_of (filled_levels rows cols elevation)
