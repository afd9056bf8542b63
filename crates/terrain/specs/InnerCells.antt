-- Accepted grids, cells that have all eight neighbours, and where a neighbour lies: only inner functions cite this file. Assumes nothing.
use Rattle.std.specs.Prelude.{◌≡◌, ℕ, ◌+◌, ◌-◌, ◌*◌, ◌%◌, ◌<◌, ◌≤◌, List, length, ℤ, pos, negsuc, slice_index, slice_index_or}
use Rattle.std.proofs.Props.{props}
use Rattle.terrain.specs.Cells.{row_steps, col_steps, neighbour, Fine}

-- the size of an accepted grid
pub record Sized (rows cols : ℕ) : Type 0 where
  pub rows-small : rows ≤ 1024
  pub cols-small : cols ≤ 1024
  pub cols-some : 0 < cols
  pub small : rows * cols ≤ 1048576

-- a ground of an accepted call
pub record Ready (rows cols : ℕ) (elevation : List ℤ) : Type 0 where
  pub rows-small : rows ≤ 1024
  pub cols-small : cols ≤ 1024
  pub cols-some : 0 < cols
  pub small : rows * cols ≤ 1048576
  pub long : length elevation ≡ rows * cols
  pub fine : (x : ℕ) → x < length elevation → Fine (slice_index_or elevation x (pos 0))

-- that a height is fine has one proof at most, so that a ghost field may hold it
pub fine-prop : (z : ℤ) → IsProp (Fine z)
fine-prop (pos n) = hlevel props
fine-prop (negsuc n) = hlevel props

-- all eight neighbours of x are on the grid: x is in no outer row and in no outer column
pub record Inside (rows cols x : ℕ) : Type 0 where
  pub up : cols ≤ x
  pub down : x + cols < rows * cols
  pub left : 1 ≤ x % cols
  pub right : x % cols + 1 < cols

-- every cell from x up to the cell end is inside; end itself may be or not
pub record RunsTo (rows cols x end : ℕ) : Type 0 where
  pub from : x ≤ end
  pub within : end < rows * cols
  pub inside : (y : ℕ) → x ≤ y → y < end → Inside rows cols y

-- where the neighbour at the bearing k of x lies, if there is one
unfoldable pub beside_of : ℕ → ℕ → ℕ → ℕ
beside_of cols x k = x + slice_index row_steps k * cols + slice_index col_steps k - cols - 1

-- the cell x has room for a neighbour at the bearing k, and the sums that lead there are small
pub record Beside (cols x k : ℕ) : Type 0 where
  pub cols-small : cols ≤ 1024
  pub cell-small : x < 1048576
  pub bearing-small : k < 8
  pub room : cols + 1 ≤ x + slice_index row_steps k * cols + slice_index col_steps k

-- the place z lies around x, at some bearing: it is the neighbour there or, past the edge of the grid, a cell of the edge
pub record Around (cols x z : ℕ) : Type 0 where
  pub bearing : ℕ
  pub room : Beside cols x bearing
  pub is : z ≡ beside_of cols x bearing

-- the cell x is on the edge: at some bearing it has no neighbour
pub record Edge (rows cols x : ℕ) : Type 0 where
  pub bearing : ℕ
  pub small : bearing < 8
  pub none : rows * cols ≤ neighbour rows cols x bearing
