-- What the loops over the cells of one map count: only inner functions cite this file. Assumes nothing.
use Rattle.std.specs.Prelude.{◌≡◌, List, Bool, not, ℕ, ◌+◌, ◌*◌, ◌≤◌, ◌<◌, length, get_or, ltb, eqb}
use Rattle.laws.specs.Sums.{sum_to, greatest_to, when}
use Rattle.settings.specs.declared.Threshold.{Threshold}
use Rattle.factor.specs.Farms.{farm_at}
use Rattle.factor.specs.Channel.{is_channel, largest_of}
use Rattle.factor.specs.Cell.{too_long}
use Rattle.factor.specs.Grid.{no_data_factor}
use Rattle.report.specs.Maps.{is_factor}
use Rattle.report.specs.Reports.{rank_of}
use Rattle.report.specs.declared.classes.Counts.{Counts}
use Rattle.report.specs.declared.lead.Lead.{Lead}
use Rattle.report.specs.declared.tally.Tally.{Tally}

-- how many of the first n numbers of a list pass a test, the sum of those that are an LS, and the sum of all
unfoldable pub count_to : (ℕ → Bool) → List ℕ → ℕ → ℕ
unfolding sum_to when
count_to test l n = sum_to n (λ x. when (test (get_or l x 0)) 1)

unfoldable pub factors_to : List ℕ → ℕ → ℕ
unfolding sum_to when is_factor
factors_to l n = sum_to n (λ x. when (is_factor (get_or l x 0)) (get_or l x 0))

unfoldable pub all_to : List ℕ → ℕ → ℕ
unfolding sum_to
all_to l n = sum_to n (λ x. get_or l x 0)

abbrev pub below : ℕ → ℕ → Bool
below bound v = ltb v bound

abbrev pub above : ℕ → ℕ → Bool
above bound v = ltb bound v

abbrev pub is_no_data : ℕ → Bool
is_no_data v = eqb v no_data_factor

abbrev pub is_wet : ℕ → Bool
is_wet c = not (eqb c 0)

-- every number is one of 32 bits
abbrev pub Numbers32 : List ℕ → Type 0
Numbers32 l = (x : ℕ) → get_or l x 0 < 4294967296

-- ---- flow counts

-- how many of the first n cells pass a test
unfoldable pub cells_to : (ℕ → Bool) → ℕ → ℕ
unfolding sum_to when
cells_to test n = sum_to n (λ x. when (test x) 1)

-- the counts above a bound are those of channels
pub record Bound (threshold : Threshold) (count : List ℕ) (bound : ℕ) : Type 0 where
  pub tells : (x : ℕ) → x < length count → ltb bound (get_or count x 0) ≡ is_channel threshold (largest_of (length count) count) (get_or count x 0)

-- the cell x has a count above the bound of its farm
abbrev pub above_in : List ℕ → List ℕ → List ℕ → ℕ → Bool
above_in bounds marks count x = ltb (get_or bounds (farm_at marks x) 0) (get_or count x 0)

-- r stands for the largest count: no count is above it, and the channel rule decides by it as by the largest
pub record Bounding (threshold : Threshold) (count : List ℕ) (r : ℕ) : Type 0 where
  pub most : (x : ℕ) → x < length count → get_or count x 0 ≤ r
  pub same : (c : ℕ) → is_channel threshold r c ≡ is_channel threshold (largest_of (length count) count) c

-- ---- LS, block by block

-- a block of the list's numbers, from a place on
pub record Block (l : List ℕ) (from : ℕ) (block : List ℕ) : Type 0 where
  pub inside : from + length block ≤ length l
  pub same : (x : ℕ) → x < length block → get_or block x 0 ≡ get_or l (from + x) 0

-- how many of the first n numbers pass each test
pub record Counted (l : List ℕ) (n given : ℕ) (r : Counts) : Type 0 where
  pub zero : r.zero ≡ count_to (below 1) l n
  pub under1 : r.under1 ≡ count_to (below 100000) l n
  pub under5 : r.under5 ≡ count_to (below 500000) l n
  pub under10 : r.under10 ≡ count_to (below 1000000) l n
  pub known : r.known ≡ count_to (below too_long) l n
  pub no-data : r.no_data ≡ count_to is_no_data l n
  pub lower : r.lower ≡ count_to (below given) l n

-- c of the numbers from one place to under another pass the test
abbrev pub CountIn : (ℕ → Bool) → List ℕ → ℕ → ℕ → ℕ → Type 0
CountIn test l from to c = count_to test l from + c ≡ count_to test l to

-- and how many of them pass each test
pub record CountedIn (l : List ℕ) (from to : ℕ) (r : Counts) : Type 0 where
  pub zero : CountIn (below 1) l from to r.zero
  pub under1 : CountIn (below 100000) l from to r.under1
  pub under5 : CountIn (below 500000) l from to r.under5
  pub under10 : CountIn (below 1000000) l from to r.under10
  pub known : CountIn (below too_long) l from to r.known
  pub no-data : CountIn is_no_data l from to r.no_data

-- no count is above the number of cells
pub record Few (r : Counts) (n : ℕ) : Type 0 where
  pub zero : r.zero ≤ n
  pub under1 : r.under1 ≤ n
  pub under5 : r.under5 ≤ n
  pub under10 : r.under10 ≤ n
  pub known : r.known ≤ n
  pub no-data : r.no_data ≤ n
  pub lower : r.lower ≤ n

-- the ranks of the first n numbers: the highest, and the first that has it
unfoldable pub highest_to : List ℕ → ℕ → ℕ
unfolding greatest_to rank_of
highest_to l n = greatest_to n (λ x. rank_of (get_or l x 0))

-- of the first n numbers: the highest rank, and a place from which on the first that has it stands
pub record Leading (l : List ℕ) (n : ℕ) (t : Lead) : Type 0 where
  pub highest : t.rank ≡ highest_to l n
  pub low : t.rank ≤ too_long
  pub inside : t.from ≤ n
  pub before : (x : ℕ) → x < t.from → rank_of (get_or l x 0) < t.rank
  pub within : 0 < t.rank → (x : ℕ) × (t.from ≤ x) × (x < n) × (rank_of (get_or l x 0) ≡ t.rank)

-- the numbers that the first n cells give
pub record Tallied (l : List ℕ) (n : ℕ) (t : Tally) : Type 0 where
  pub zero : t.zero ≡ count_to (below 1) l n
  pub under1 : t.under1 ≡ count_to (below 100000) l n
  pub under5 : t.under5 ≡ count_to (below 500000) l n
  pub under10 : t.under10 ≡ count_to (below 1000000) l n
  pub known : t.known ≡ count_to (below too_long) l n
  pub no-data : t.no_data ≡ count_to is_no_data l n
  pub sum : t.sum ≡ all_to l n
  pub lead : Leading l n t.lead

-- no count and no sum is above what that many cells can give
pub record FewIn (t : Tally) (n : ℕ) : Type 0 where
  pub zero : t.zero ≤ n
  pub under1 : t.under1 ≤ n
  pub under5 : t.under5 ≤ n
  pub under10 : t.under10 ≤ n
  pub known : t.known ≤ n
  pub no-data : t.no_data ≤ n
  pub sum : t.sum ≤ n * 4294967295
