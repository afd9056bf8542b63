-- RULES 4.3: the drop of a cell along its direction, and the cell's fall, which tells the drop and whether the direction is diagonal in
-- one number. The grid of falls is what the layer above works steepness out from. Assumes nothing.
use Rattle.std.specs.Prelude.{ℕ, ◌+◌, ◌-◌, ◌*◌, ◌%◌, cond, List, nat_lt, slice_index, slice_index_or}
use Rattle.laws.specs.Lists.{tab}
use Rattle.terrain.specs.Cells.{bearing_of}
use Rattle.terrain.specs.Trail.{mapped_at, flows_at, next_at}

-- the fall of a NoData cell, as an LS grid marks it
abbrev pub no_fall : ℕ
no_fall = 4294967295

-- the fall of a drop d over the bearing k: twice the drop, and one more over a diagonal; 0 where there is no drop
unfoldable pub fall_of : ℕ → ℕ → ℕ
fall_of k d = cond (nat_lt 0 d) (2 * d + k % 2) 0

module _ (rows cols : ℕ) (lv dir : List ℕ) where
  -- by how many cm the filled height of x is above that of the cell it points at; 0 where it points at none
  unfoldable pub drop_at : ℕ → ℕ
  unfolding flows_at next_at
  drop_at x = cond (flows_at rows cols dir x) (slice_index lv x - slice_index lv (next_at rows cols dir x)) 0

  -- the fall of x
  unfoldable pub fall_at : ℕ → ℕ
  unfolding mapped_at bearing_of drop_at fall_of
  fall_at x = cond (mapped_at rows cols dir x) (fall_of (bearing_of (slice_index_or dir x 255)) (drop_at x)) no_fall

  -- the falls of a map, by its filled levels and directions
  unfoldable pub falls_of : List ℕ
  unfolding tab fall_at
  falls_of = tab (rows * cols) fall_at
