-- RULES 12.2: the report of a list of maps, each number cell by cell and map by map. Assumes nothing.
use Rattle.std.specs.Prelude.{List, map, Bool, false, ◌&&◌, ℕ, zero, suc, ◌+◌, length, get_or, eqb, Option, None, Some}
use Rattle.laws.specs.First.{first_of, some_of}
use Rattle.laws.specs.Lists.{total}
use Rattle.laws.specs.Sums.{sum_to, greatest_to, when}
use Rattle.report.specs.Maps.{Map, cells_of, valid_at, channel_in, is_factor, is_zero, is_long, is_between, is_from, factor_at, factor_is}
use Rattle.report.specs.declared.Greatest.{Greatest}
use Rattle.report.specs.declared.Report.{Report}

-- ---- totals

-- a number of each map, added over the maps
unfoldable pub over : List Map → (Map → ℕ) → ℕ
unfolding total
over maps number = total (map number maps)

-- how many cells of a map pass a test
unfoldable pub cells_with : (Map → ℕ → Bool) → Map → ℕ
unfolding sum_to when
cells_with test m = sum_to (cells_of m) (λ x. when (test m x) 1)

-- the sum of a map's LS
unfoldable pub sum_of : Map → ℕ
unfolding sum_to when is_factor
sum_of m = sum_to (cells_of m) (λ x. when (is_factor (factor_at m x)) (factor_at m x))

-- ---- the greatest LS

-- one more than an LS, and 0 for what is none, so that an LS of 0 counts too
unfoldable pub rank_of : ℕ → ℕ
unfolding when is_factor
rank_of v = when (is_factor v) (v + 1)

-- one more than the greatest LS of a map, and of all maps; 0 where no cell has one
unfoldable pub highest_in : Map → ℕ
unfolding greatest_to rank_of
highest_in m = greatest_to (cells_of m) (λ x. rank_of (factor_at m x))

unfoldable pub highest_of : List Map → ℕ
unfolding greatest_to highest_in
highest_of maps = greatest_to (length maps) (λ i. get_or (map highest_in maps) i 0)

-- the cell x has the LS v
unfoldable pub has_factor : ℕ → Map → ℕ → Bool
unfolding is_factor
has_factor v m x = is_factor (factor_at m x) && eqb (factor_at m x) v

-- the first map that has a cell with this LS
unfoldable pub first_map : ℕ → List Map → ℕ
unfolding first_of some_of has_factor
first_map v maps = first_of (λ i. get_or (map (λ m. some_of (has_factor v m) (cells_of m)) maps) i false) (length maps)

-- the first such cell of a map
unfoldable pub first_cell : ℕ → Map → ℕ
unfolding first_of has_factor
first_cell v m = first_of (has_factor v m) (cells_of m)

-- an LS with its map and cell
abbrev pub found : ℕ → ℕ → ℕ → Option Greatest
found v i x = Some (record { factor = v; map = i; cell = x })

-- the greatest LS with the first map and cell that has it, counted from 0; none where the rank is 0
unfoldable pub found_with : List Map → ℕ → Option Greatest
unfolding first_map first_cell
found_with maps zero = None
found_with maps (suc v) = let i = first_map v maps in found v i (get_or (map (first_cell v) maps) i 0)

unfoldable pub greatest_of : List Map → Option Greatest
unfolding found_with highest_of
greatest_of maps = found_with maps (highest_of maps)

-- ---- the report

unfoldable pub report_of : List Map → Report
unfolding over cells_with sum_of greatest_of valid_at channel_in is_between is_from
report_of maps =
    record {
      maps = length maps;
      valid = over maps (cells_with valid_at);
      channel = over maps (cells_with channel_in);
      zero = over maps (cells_with (factor_is is_zero));
      long = over maps (cells_with (factor_is is_long));
      sum = over maps sum_of;
      under1 = over maps (cells_with (factor_is (is_between 0 100000)));
      from1 = over maps (cells_with (factor_is (is_between 100000 500000)));
      from5 = over maps (cells_with (factor_is (is_between 500000 1000000)));
      from10 = over maps (cells_with (factor_is (is_from 1000000)));
      greatest = greatest_of maps;
    }
