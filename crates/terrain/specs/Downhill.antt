-- RULES 4.5: The valid cells in an order from the ridges down. Assumes nothing.
use Rattle.std.specs.Prelude.{ℕ, ◌≤◌, List, length}
use Rattle.laws.specs.Orders.{Ordered}
use Rattle.terrain.specs.Trail.{mapped_at, receiver_of}

-- The first m places of the order hold every valid cell once and nothing else, each after all the cells that point at it. Which of the many such orders it is, and what
-- stands past them, stays open.
pub record Downhill (rows cols : ℕ) (dir order : List ℕ) (m : ℕ) : Type 0 where
  pub room : m ≤ length order
  pub cells : Ordered (mapped_at rows cols dir) (receiver_of rows cols dir) order m
