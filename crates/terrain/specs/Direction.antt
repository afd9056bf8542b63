-- RULES 4.3: steepness and directions, over filled levels. Assumes nothing.
use Rattle.std.specs.Prelude.{ℕ, ◌+◌, ◌-◌, ◌*◌, Bool, cond, ◌&&◌, List, ◌==◌, nat_eq, slice_index}
use Rattle.laws.specs.Lists.{tab}
use Rattle.laws.specs.Sums.{greatest_to}
use Rattle.laws.specs.First.{first_of}
use Rattle.terrain.specs.Cells.{neighbour, code_of, cardinal, valid_at, rim_at}
use Rattle.terrain.specs.Flat.{lower_at, has_lower, flat_steps}

-- For one with drop d, steepness is 2·d·d in a cardinal direction and d·d in a diagonal one.
abbrev pub steep_of : ℕ → ℕ → ℕ
steep_of k d = cond (cardinal k) (2 * (d * d)) (d * d)

module _ (rows cols : ℕ) (lv : List ℕ) where
  -- the steepness towards the neighbour at the bearing k of x; 0 where that is no lower neighbour
  unfoldable pub steep_at : ℕ → ℕ → ℕ
  unfolding neighbour
  steep_at x k = cond (lower_at rows cols lv x k) (steep_of k (slice_index lv x - slice_index lv (neighbour rows cols x k))) 0

  -- the greatest
  unfoldable pub steepest_at : ℕ → ℕ
  unfolding steep_at greatest_to
  steepest_at x = greatest_to 8 (steep_at x)

  -- The direction is the lower neighbour of greatest steepness; on a tie, the first in the order of the codes.
  unfoldable pub steep_bearing : ℕ → ℕ
  unfolding steep_at steepest_at first_of
  steep_bearing x = first_of (λ k. nat_eq (steep_at x k) (steepest_at x)) 8

  -- the neighbour at the bearing k has the level of x, and is one step nearer
  abbrev pub nearer_at : List ℕ → ℕ → ℕ → Bool
  nearer_at st x k = slice_index lv (neighbour rows cols x k) == slice_index lv x && slice_index st (neighbour rows cols x k) + 1 == slice_index st x

  -- the first neighbour of equal height, in code order, that is one step nearer
  unfoldable pub nearer_bearing : List ℕ → ℕ → ℕ
  unfolding neighbour first_of
  nearer_bearing st x = first_of (nearer_at st x) 8

  -- the direction of x, for the flat steps st. A rim cell with no lower neighbour has 0.
  unfoldable pub direction_at : List ℕ → ℕ → ℕ
  unfolding has_lower steep_bearing rim_at nearer_bearing
  direction_at st x = cond (valid_at lv x) (cond (has_lower rows cols lv x) (code_of (steep_bearing x)) (cond (rim_at rows cols lv x) 0 (code_of (nearer_bearing st x)))) 255

  unfoldable pub directions_of : List ℕ
  unfolding tab direction_at flat_steps
  directions_of = let st = flat_steps rows cols lv in tab (rows * cols) (λ x. direction_at st x)
