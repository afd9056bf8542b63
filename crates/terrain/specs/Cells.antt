-- RULES 4.1: neighbours, valid cells, rim cells, codes. A grid is a list, row after row from the north, and a cell is an index.
-- Heights are whole numbers; a level is a height counted from NoData, so that NoData is 0, and what is no cell is at level 0 too. Assumes nothing.
use Rattle.std.specs.Prelude.{◌≡◌, ℕ, ◌+◌, ◌-◌, ◌*◌, ◌/◌, ◌%◌, ◌<◌, ◌≤◌, Bool, cond, not, ◌&&◌, List, [], ◌∷◌, map, get_or, ℤ, pos, negsuc, ◌==◌, nat_eq, nat_lt, slice_index, slice_index_or}
use Rattle.std.proofs.Math.IntN.{sub_ℕ}
use Rattle.laws.specs.First.{first_of, some_of}
use Rattle.text.specs.Quantities.{datum, no_data_height}

-- ---- heights

-- -999,900 means NoData
abbrev pub no_data : ℤ
no_data = no_data_height

-- from NoData to 900,000: every accepted height, and every filled one
abbrev pub Fine : ℤ → Type 0
Fine (pos n) = n ≤ 900000
Fine (negsuc n) = n < datum

-- ---- neighbours: the eight around

-- The bearings 0 to 7 in the order of the codes, E SE S SW W NW N NE: one more than the rows that a bearing goes down, and than the columns that it goes right.
abbrev pub row_steps : List ℕ
row_steps = 1 ∷ 2 ∷ 2 ∷ 2 ∷ 1 ∷ 0 ∷ 0 ∷ 0 ∷ []

abbrev pub col_steps : List ℕ
col_steps = 2 ∷ 2 ∷ 1 ∷ 0 ∷ 0 ∷ 0 ∷ 1 ∷ 2 ∷ []

-- the cell of row a - 1 and column b - 1; rows * cols, which is no cell, off the grid
unfoldable pub cell_at : ℕ → ℕ → ℕ → ℕ → ℕ
cell_at rows cols a b =
    cond (nat_lt a 1) (rows * cols)
    (cond (nat_lt rows a) (rows * cols) (cond (nat_lt b 1) (rows * cols) (cond (nat_lt cols b) (rows * cols) ((a - 1) * cols + (b - 1)))))

-- the neighbour of the cell x at the bearing k
unfoldable pub neighbour : ℕ → ℕ → ℕ → ℕ → ℕ
unfolding cell_at
neighbour rows cols x k = cell_at rows cols (x / cols + slice_index row_steps k) (x % cols + slice_index col_steps k)

-- how far on the neighbour at each bearing lies from the one at NW
pub record Shifts (cols : ℕ) (shifts : List ℕ) : Type 0 where
  pub steps : (k : ℕ) → k < 8 → slice_index shifts k ≡ slice_index row_steps k * cols + slice_index col_steps k

-- ---- codes: E 1, SE 2, S 4, SW 8, W 16, NW 32, N 64, NE 128; 0 leaves the map; 255 NoData

-- the code of a bearing; 0 for 8, which is no bearing
abbrev pub code_of : ℕ → ℕ
code_of k = slice_index (1 ∷ 2 ∷ 4 ∷ 8 ∷ 16 ∷ 32 ∷ 64 ∷ 128 ∷ []) k

-- the bearing of a code; 8 for 0 and 255
unfoldable pub bearing_of : ℕ → ℕ
unfolding first_of
bearing_of code = first_of (λ k. nat_eq code (code_of k)) 8

-- a bearing that is no diagonal
abbrev pub cardinal : ℕ → Bool
cardinal k = k % 2 == 0

-- ---- A cell is valid if its ground height is not NoData.

abbrev pub Valid : List ℤ → ℕ → Type 0
Valid elevation x = slice_index_or elevation x no_data ≡ no_data → ⊥

-- A rim cell is a valid cell on the grid's edge or beside a NoData cell: at some bearing it has no cell, or NoData.
pub record Rim (rows cols : ℕ) (elevation : List ℤ) (x : ℕ) : Type 0 where
  pub valid : Valid elevation x
  pub bearing : ℕ
  pub small : bearing < 8
  pub none : get_or elevation (neighbour rows cols x bearing) no_data ≡ no_data

-- ---- the same over levels

-- z + 999,900; 0 for what is below NoData
unfoldable pub level_of : ℤ → ℕ
level_of (pos n) = datum + n
level_of (negsuc n) = datum - (n + 1)

-- v - 999,900
unfoldable pub height_of : ℕ → ℤ
height_of v = sub_ℕ v datum

unfoldable pub levels_of : List ℤ → List ℕ
unfolding level_of
levels_of elevation = map level_of elevation

-- the cell x is valid
abbrev pub valid_at : List ℕ → ℕ → Bool
valid_at lv x = nat_lt 0 (slice_index lv x)

-- the cell x is a rim cell
unfoldable pub rim_at : ℕ → ℕ → List ℕ → ℕ → Bool
unfolding neighbour some_of
rim_at rows cols lv x = valid_at lv x && some_of (λ k. not (valid_at lv (neighbour rows cols x k))) 8
