-- The order from the ridges down on the way there: only inner functions cite this file. Assumes nothing.
use Rattle.std.specs.Prelude.{◌≡◌, ℕ, ◌*◌, ◌<◌, true, List, length, ◌==◌, slice_index}
use Rattle.laws.specs.Sums.{sum_to, when}
use Rattle.laws.specs.Peel.{Peeling}
use Rattle.terrain.specs.Trail.{mapped_at, receiver_of}

-- what each cell waits for when the cells below x have been seen: the number of those that point at it, and for NoData not 0
pub record Awaiting (rows cols : ℕ) (dir waiting : List ℕ) (x : ℕ) : Type 0 where
  pub long : length waiting ≡ rows * cols
  pub waits : (z : ℕ) → mapped_at rows cols dir z ≡ true → slice_index waiting z ≡ sum_to x (λ u. when (receiver_of rows cols dir u == z) 1)
  pub shut : (z : ℕ) → z < rows * cols → slice_index waiting z ≡ 0 → mapped_at rows cols dir z ≡ true

-- the first m places are taken, the cells below the bound have been tried, and the cell in hand waits for none; rows * cols: none is in hand
abbrev pub Peeled : ℕ → ℕ → List ℕ → List ℕ → List ℕ → ℕ → ℕ → ℕ → Type 0
Peeled rows cols dir order waiting m bound hand = Peeling (rows * cols) (mapped_at rows cols dir) (receiver_of rows cols dir) order waiting m bound hand

-- the cell that is in hand after one was taken that points at y: none, or y if it waits for none; one from the bound on may be left for its turn in the grid
pub record Onward (n bound : ℕ) (waiting : List ℕ) (y hand : ℕ) : Type 0 where
  pub some : hand < n → (hand ≡ y) × (slice_index waiting y ≡ 0)
  pub none : y < bound → slice_index waiting y ≡ 0 → hand ≡ y
