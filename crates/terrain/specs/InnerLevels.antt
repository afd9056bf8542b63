-- A grid of levels, as the functions of `flat` and `direction` may assume it, and what they answer: only inner functions cite this file. A function that is not
-- told the rows requires that there is a number of them, and ensures for every number that fits. Assumes nothing.
use Rattle.std.specs.Prelude.{◌≡◌, ℕ, zero, suc, ◌+◌, ◌-◌, ◌*◌, ◌/◌, ◌%◌, ◌≤◌, Bool, false, cond, not, ◌&&◌, ◌||◌, List, length, nat_le, nat_lt, slice_index}
use Rattle.laws.specs.Lists.{Agrees}
use Rattle.laws.specs.Settle.{relaxed_of}
use Rattle.terrain.specs.Cells.{neighbour, code_of, valid_at}
use Rattle.terrain.specs.InnerCells.{Sized}
use Rattle.terrain.specs.Filled.{top}
use Rattle.terrain.specs.Flat.{far_steps, has_lower, flat_at, nearest_of, flat_stepping}
use Rattle.terrain.specs.Direction.{steep_bearing}
use Rattle.terrain.specs.Falls.{no_fall}
use Rattle.terrain.specs.declared.direction.Fall.{Fall}

pub record Levels (rows cols : ℕ) (lv : List ℕ) : Type 0 where
  pub sized : Sized rows cols
  pub long : length lv ≡ rows * cols
  pub capped : (x : ℕ) → slice_index lv x ≤ top

-- ---- flat

-- one of the first k neighbours of x has no data or is past the edge of the grid
unfoldable pub open_at : ℕ → ℕ → List ℕ → ℕ → ℕ → Bool
unfolding neighbour
open_at rows cols lv x zero = false
open_at rows cols lv x (suc k) = open_at rows cols lv x k || not (valid_at lv (neighbour rows cols x k))

-- the steps that the cell x starts from
unfoldable pub start_at : ℕ → ℕ → List ℕ → ℕ → ℕ
unfolding flat_at
start_at rows cols lv x = cond (flat_at rows cols lv x) far_steps 0

-- the steps of the cell x were lowered, if they could be
pub record LoweredSteps (rows cols : ℕ) (lv d₀ d : List ℕ) (x : ℕ) (lowered : Bool) : Type 0 where
  pub told : lowered ≡ nat_lt (nearest_of rows cols lv d₀ x 8 + 1) (slice_index d₀ x)
  pub is : d ≡ relaxed_of (flat_stepping rows cols lv) d₀ x

-- ---- direction

-- the drop from the level v to the level w; 0 where w is not lower, or not valid
unfoldable pub drop_of : ℕ → ℕ → ℕ
drop_of v w = cond (nat_lt 0 w && nat_lt w v) (v - w) 0

-- the key of that drop at the bearing k: greater for a greater drop, and of equal drops for an earlier bearing
abbrev pub key_of : ℕ → ℕ → ℕ → ℕ
key_of v w k = drop_of v w * 256 + (255 - code_of k)

-- the drop of the greatest cardinal key c is as steep as that of the greatest diagonal key d
abbrev pub straight : ℕ → ℕ → Bool
straight c d = nat_le (d / 256 * (d / 256)) (2 * (c / 256 * (c / 256)))

-- the code and the fall of the steeper of the two
pub record Chosen (c d : ℕ) (r : Fall) : Type 0 where
  pub code : r.code ≡ 255 - cond (straight c d) c d % 256
  pub fall : r.fall ≡ cond (straight c d) c d / 256 * 2 + cond (straight c d) 0 1

module _ (rows cols : ℕ) (lv : List ℕ) where
  -- the drop over the bearing k of x, its key and its fall
  abbrev pub bearing_drop : ℕ → ℕ → ℕ
  bearing_drop x k = drop_of (slice_index lv x) (slice_index lv (neighbour rows cols x k))

  abbrev pub bearing_key : ℕ → ℕ → ℕ
  bearing_key x k = key_of (slice_index lv x) (slice_index lv (neighbour rows cols x k)) k

  abbrev pub bearing_fall : ℕ → ℕ → ℕ
  bearing_fall x k = 2 * bearing_drop x k + k % 2

  -- what g has for the steepest bearing of x; 0 where no neighbour is lower
  unfoldable pub steepest_in : (ℕ → ℕ) → ℕ → ℕ
  unfolding has_lower steep_bearing
  steepest_in g x = cond (has_lower rows cols lv x) (g (steep_bearing rows cols lv x)) 0

  -- the code of the cell x but for flats
  unfoldable pub down_at : ℕ → ℕ
  unfolding steepest_in
  down_at x = cond (valid_at lv x) (steepest_in code_of x) 255

  -- and its fall
  unfoldable pub fall_down_at : ℕ → ℕ
  unfolding steepest_in
  fall_down_at x = cond (valid_at lv x) (steepest_in (bearing_fall x) x) no_fall

  -- both of the cell x
  pub record FallTo (x : ℕ) (a : Fall) : Type 0 where
    pub code : a.code ≡ down_at x
    pub fall : a.fall ≡ fall_down_at x

  -- the cells below x have their codes but for flats, their falls and the steps that they start from
  pub record Down (dir fall steps : List ℕ) (x : ℕ) : Type 0 where
    pub codes : Agrees down_at 255 dir x
    pub falls : Agrees fall_down_at 0 fall x
    pub starts : Agrees (start_at rows cols lv) 0 steps x
