-- Only inner functions cite this file: what those of `pass` assume of a map, and what they leave. Assumes nothing.
use Rattle.std.specs.Prelude.{◌≡◌, cond, List, ℕ, ◌+◌, ◌*◌, ◌≤◌, ◌<◌, max, ltb, eqb, length, get_or, set, Option, Some, None}
use Rattle.std.specs.Borrow.{Bor}
use Rattle.std.specs.Int.Count.{count_trailing_zeros}
use Rattle.settings.specs.declared.Rules.{Rules}
use Rattle.terrain.specs.Filled.{top}
use Rattle.terrain.specs.InnerCells.{Beside, beside_of}
use Rattle.terrain.specs.Falls.{falls_of}
use Rattle.terrain.specs.InnerTrail.{Directed}
use Rattle.terrain.specs.Downhill.{Downhill}
use Rattle.factor.specs.Channel.{is_channel}
use Rattle.factor.specs.Cell.{factor_of}
use Rattle.factor.specs.Inflow.{start_length}
use Rattle.factor.specs.Inner.{greatest_fall, steepest, greatest_length, steepness_of, final_length, left_by, brought_by}
use Rattle.factor.specs.declared.pass.Farm.{Farm}
use Rattle.factor.specs.declared.pass.Terms.{Terms}

-- the farm that the cell x names; farm 0 where there are no marks
abbrev pub farm_by : Option (Bor (List ℕ)) → ℕ → ℕ
farm_by None x = 0
farm_by (Some marks) x = get_or marks.now x 0

-- the cell x has a place in the marks, where there are some
abbrev pub Marking : Option (Bor (List ℕ)) → ℕ → Type 0
Marking None x = Unit {0}
Marking (Some marks) x = x < length marks.now

-- each of the n cells has a place in the marks
abbrev pub Naming : ℕ → Option (Bor (List ℕ)) → Type 0
Naming n marks = (x : ℕ) → x < n → Marking marks x

-- what the cells of a farm are measured by
abbrev pub farm_in : Terms → ℕ → Farm
farm_in terms farm = cond (eqb farm 0) terms.first terms.second

-- an accepted cell side
pub record Sided (side : ℕ) : Type 0 where
  pub side-some : 1 ≤ side
  pub side-small : side ≤ 100000

-- a farm holds its rules: what the cutoffs leave, squared, and the formula
pub record Ruled (rules : Rules) (farm : Farm) : Type 0 where
  pub high_is : farm.high ≡ left_by rules.high
  pub low-is : farm.low ≡ left_by rules.low
  pub formula-is : farm.formula ≡ rules.formula

-- and the counts up to the largest that are above its bound are those of its channels
pub record Farmed (rules : Rules) (largest : ℕ) (farm : Farm) : Type 0 where
  pub ruled : Ruled rules farm
  pub tells : (c : ℕ) → c ≤ largest → ltb farm.most c ≡ is_channel rules.threshold largest c

-- ---- a cell's length and LS

-- the length of the cell x, by what is gathered there
abbrev pub length_now : Farm → List ℕ → List ℕ → List ℕ → ℕ → ℕ
length_now farm dir count lengths x = final_length (ltb farm.most (get_or count x 0)) (start_length (get_or dir x 0)) (get_or lengths x 0)

-- the cell x has a place in every grid, a small fall and a small gathered amount
pub record Settling (side : ℕ) (dir count lengths factors : List ℕ) (x : ℕ) : Type 0 where
  pub sided : Sided side
  pub dir-in : x < length dir
  pub count-in : x < length count
  pub lengths-in : x < length lengths
  pub factors-in : x < length factors
  pub lengths-few : length lengths ≤ 1048576
  pub factors-few : length factors ≤ 1048576
  pub fall-small : get_or factors x 0 ≤ greatest_fall
  pub gathered-small : get_or lengths x 0 ≤ greatest_length

-- its length and its LS are there
pub record Settled (side : ℕ) (farm : Farm) (dir count lengths factors : List ℕ) (x len : ℕ) (lengths' factors' : List ℕ) : Type 0 where
  pub length-is : len ≡ length_now farm dir count lengths x
  pub lengths-are : lengths' ≡ set lengths x len
  pub factors-are : factors' ≡ set factors x (factor_of farm.formula side (steepness_of (get_or factors x 0)) len)

-- ---- what a cell hands on

-- the cell y of a farm has a place in every grid, a small fall, and an inflow of small steepness p and length
pub record Receiving (side : ℕ) (farm : Farm) (dir lengths factors : List ℕ) (y p len : ℕ) : Type 0 where
  pub rules : Rules
  pub ruled : Ruled rules farm
  pub sided : Sided side
  pub dir-in : y < length dir
  pub lengths-in : y < length lengths
  pub factors-in : y < length factors
  pub lengths-few : length lengths ≤ 1048576
  pub factors-few : length factors ≤ 1048576
  pub fall-small : get_or factors y 0 ≤ greatest_fall
  pub inflow-small : p ≤ steepest
  pub length-small : len ≤ greatest_length

-- the lengths once its inflow, whose neighbour k it is, has handed on to it
abbrev pub lengths_with : ℕ → Rules → List ℕ → List ℕ → List ℕ → ℕ → ℕ → ℕ → ℕ → List ℕ
lengths_with side rules dir lengths factors y k p len =
    set lengths y (max (get_or lengths y 0) (brought_by side rules k p (steepness_of (get_or factors y 0)) (start_length (get_or dir y 0)) len + 1))

-- ---- the turn of one cell

-- the bearing, 0 to 7, that the code of x points at; 8 for 0
abbrev pub bearing_at : List ℕ → ℕ → ℕ
bearing_at dir x = count_trailing_zeros 8 (get_or dir x 0)

-- the cell beside x there
abbrev pub beside_at : Terms → List ℕ → ℕ → ℕ
beside_at terms dir x = beside_of terms.columns x (bearing_at dir x)

-- the cell x, and the cell that it points at, have the rules of their farms, small falls and gathered amounts, and places in every grid
pub record Turning (terms : Terms) (farm : ℕ → Farm) (dir count lengths factors : List ℕ) (x : ℕ) : Type 0 where
  pub settling : Settling terms.side dir count lengths factors x
  pub rules : Rules
  pub next-ruled : Ruled rules (farm (beside_at terms dir x))
  pub beside-room : bearing_at dir x < 8 → Beside terms.columns x (bearing_at dir x)
  pub next-other : bearing_at dir x < 8 → beside_at terms dir x ≡ x → ⊥
  pub next-dir : bearing_at dir x < 8 → beside_at terms dir x < length dir
  pub next-lengths : bearing_at dir x < 8 → beside_at terms dir x < length lengths
  pub next-factors : bearing_at dir x < 8 → beside_at terms dir x < length factors
  pub next_small : bearing_at dir x < 8 → get_or factors (beside_at terms dir x) 0 ≤ greatest_fall

module _ (terms : Terms) (farm : ℕ → Farm) (dir count lengths factors : List ℕ) (x : ℕ) where
  -- the length of the cell x, and its amount for the cell y by these rules, by the lists at its turn
  abbrev pub length_then : ℕ
  length_then = length_now (farm x) dir count lengths x

  abbrev pub amount_then : Rules → ℕ → ℕ
  amount_then rules y =
      brought_by terms.side rules (bearing_at dir x) (steepness_of (get_or factors x 0)) (steepness_of (get_or factors y 0)) (start_length (get_or dir y 0)) length_then

  -- the lengths once it has handed on to the cell y
  abbrev pub lengths_next : Rules → ℕ → List ℕ
  lengths_next rules y = set (set lengths x length_then) y (max (get_or lengths y 0) (amount_then rules y + 1))

  -- the lists after its turn
  pub record Turned (lengths' factors' : List ℕ) : Type 0 where
    pub factors-are : factors' ≡ set factors x (factor_of (farm x).formula terms.side (steepness_of (get_or factors x 0)) length_then)
    pub leaves : 8 ≤ bearing_at dir x → lengths' ≡ set lengths x length_then
    pub hands_on : (rules : Rules) → Ruled rules (farm (beside_at terms dir x)) → bearing_at dir x < 8 →
        lengths' ≡ lengths_next rules (beside_at terms dir x)

-- ---- the pass

-- what the pass assumes of a map: its levels lv, directions and counts, an order of its cells, and the grids that lengths and LS go to
pub record Measuring (rows cols side : ℕ) (lv dir count order lengths factors : List ℕ) : Type 0 where
  pub directed : Directed rows cols dir
  pub capped : (x : ℕ) → get_or lv x 0 ≤ top
  pub side-some : 1 ≤ side
  pub side-small : side ≤ 100000
  pub count_long : length count ≡ rows * cols
  pub order_is : Downhill rows cols dir order (length order)
  pub lengths-long : length lengths ≡ rows * cols
  pub falls-are : factors ≡ falls_of rows cols lv dir
