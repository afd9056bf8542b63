-- RULES 12.1: what a report takes of a map, and the tests of its cells. Assumes nothing.
use Rattle.std.specs.Prelude.{List, Bool, not, ◌&&◌, ◌||◌, ℕ, ◌*◌, get_or, ltb, leb, eqb}
use Rattle.factor.specs.Farms.{Farms, rules_in}
use Rattle.factor.specs.Channel.{channel_at}
use Rattle.factor.specs.Cell.{too_long}
use Rattle.factor.specs.Grid.{no_data_factor}

-- shape, the settings of its one farm or of its two farms with the marks, flow counts and LS
pub record Map : Type 0 where
  pub rows : ℕ
  pub columns : ℕ
  pub farms : Farms
  pub count : List ℕ
  pub factors : List ℕ

abbrev pub map_of : ℕ → ℕ → Farms → List ℕ → List ℕ → Map
map_of rows columns farms count factors =
    record { rows = rows; columns = columns; farms = farms; count = count; factors = factors }

abbrev pub cells_of : Map → ℕ
cells_of m = m.rows * m.columns

-- ---- by the counts alone

-- valid: count not 0
unfoldable pub valid_at : Map → ℕ → Bool
valid_at m x = not (eqb (get_or m.count x 0) 0)

-- a channel, as the map call has it: by the rule of the cell's own farm; the largest flow count is the largest of the counts given, over both farms
unfoldable pub channel_in : Map → ℕ → Bool
unfolding rules_in channel_at
channel_in m x = channel_at m.rows m.columns (rules_in m.farms x) m.count x

-- ---- by the LS alone

-- neither NoData nor too long: those cells are in no class, no sum and never the greatest
unfoldable pub is_factor : ℕ → Bool
is_factor v = not (eqb v no_data_factor || eqb v too_long)

abbrev pub is_zero : ℕ → Bool
is_zero v = eqb v 0

abbrev pub is_long : ℕ → Bool
is_long v = eqb v too_long

-- the classes: from one bound to under the next, in hundred-thousandths, and from the last on
unfoldable pub is_between : ℕ → ℕ → ℕ → Bool
unfolding is_factor
is_between low high v = is_factor v && (leb low v && ltb v high)

unfoldable pub is_from : ℕ → ℕ → Bool
unfolding is_factor
is_from low v = is_factor v && leb low v

-- the LS of the cell x passes the test
abbrev pub factor_at : Map → ℕ → ℕ
factor_at m x = get_or m.factors x 0

abbrev pub factor_is : (ℕ → Bool) → Map → ℕ → Bool
factor_is test m x = test (factor_at m x)
