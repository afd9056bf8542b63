-- RULES 4.3: the steepness of a cell, from its drop along its direction. Assumes nothing.
use Rattle.std.specs.Prelude.{List, ℕ, get_or}
use Rattle.terrain.specs.Cells.{bearing_of}
use Rattle.terrain.specs.Direction.{steep_of}
use Rattle.terrain.specs.Falls.{drop_at}

-- the steepness q of the cell x is that of its own direction; 0 where it points at no neighbour
unfoldable pub steepness_at : ℕ → ℕ → List ℕ → List ℕ → ℕ → ℕ
unfolding bearing_of drop_at
steepness_at rows cols lv dir x = steep_of (bearing_of (get_or dir x 255)) (drop_at rows cols lv dir x)
