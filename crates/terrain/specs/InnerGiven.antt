-- A given grid of directions on the way to being accepted, and the search for rings in the words of the workspace: only inner functions cite this file. Assumes nothing.
use Rattle.std.specs.Prelude.{◌≡◌, ℕ, ◌+◌, ◌*◌, ◌%◌, ◌<◌, ◌≤◌, Bool, true, false, ◌&&◌, if◌then◌else◌, Option, Some, None, List, map, length, nat_le, nat_lt, slice_index, slice_index_or}
use Rattle.laws.specs.Orders.{stands_in}
use Rattle.terrain.specs.Cells.{valid_at, rim_at}
use Rattle.terrain.specs.Trail.{mapped_at, flows_at, next_at}
use Rattle.terrain.specs.InnerTrail.{Drawn}
use Rattle.terrain.specs.InnerLevels.{Levels}
use Rattle.terrain.specs.InnerDownhill.{Awaiting, Peeled}

-- a grid of directions that keeps the rules of 17, over levels
pub record Keeping (rows cols : ℕ) (lv dir : List ℕ) : Type 0 where
  pub levels : Levels rows cols lv
  pub drawn : Drawn rows cols dir
  pub mapped : (x : ℕ) → mapped_at rows cols dir x ≡ valid_at lv x
  pub falls : (x : ℕ) → flows_at rows cols dir x ≡ true → slice_index lv (next_at rows cols dir x) ≤ slice_index lv x
  pub leaves : (x : ℕ) → slice_index_or dir x 255 ≡ 0 → rim_at rows cols lv x ≡ true

-- the cell x, if it is one of n cells
abbrev pub cell_below : ℕ → ℕ → Option ℕ
cell_below n x = if nat_lt x n then Some x else None

-- ---- the words of the search: the level of a cell in the last 21 bits and, above, the number of inflows that it waits for, 0 to 8, or 9 if it is taken

-- the place of that number
abbrev pub wait_place : ℕ
wait_place = 2097152

-- what a cell that is taken waits for
abbrev pub shut_waits : ℕ
shut_waits = 9

-- the words hold levels and what cells wait for; for NoData, which is at level 0, that is not noted
pub record Noted (rows cols : ℕ) (lv dir waiting words : List ℕ) : Type 0 where
  pub long : length words ≡ rows * cols
  pub wide : length waiting ≡ rows * cols
  pub is : (z : ℕ) → mapped_at rows cols dir z ≡ true → slice_index words z ≡ slice_index lv z + slice_index waiting z * wait_place
  pub none : (z : ℕ) → mapped_at rows cols dir z ≡ false → slice_index words z ≡ 0

-- the levels in words
abbrev pub levels_in : List ℕ → List ℕ
levels_in words = map (λ w. w % 2097152) words

-- a word of a cell that is left over: it waits, and is not taken
abbrev pub left_word : ℕ → Bool
left_word w = nat_le 2097152 w && nat_lt w 18874368

-- the cell z is left over
abbrev pub left_at : List ℕ → ℕ → Bool
left_at words z = left_word (slice_index words z)

-- the levels are as they were
pub record SameLevels (words₀ words : List ℕ) : Type 0 where
  pub long : length words ≡ length words₀
  pub is : (z : ℕ) → slice_index words z % wait_place ≡ slice_index words₀ z % wait_place

-- the cells below x have been seen by those that they point at
pub record Counting (rows cols : ℕ) (dir words : List ℕ) (x : ℕ) : Type 0 where
  pub lv : List ℕ
  pub waiting : List ℕ
  pub keeps : Keeping rows cols lv dir
  pub noted : Noted rows cols lv dir waiting words
  pub awaits : Awaiting rows cols dir waiting x

-- p cells are taken, in some order; those below the bound have been tried, and the cell in hand waits for none; rows * cols: none is in hand
pub record Searching (rows cols : ℕ) (dir words : List ℕ) (p bound hand : ℕ) : Type 0 where
  pub lv : List ℕ
  pub waiting : List ℕ
  pub order : List ℕ
  pub keeps : Keeping rows cols lv dir
  pub noted : Noted rows cols lv dir waiting words
  pub peeled : Peeled rows cols dir order waiting p bound hand
  -- a cell that is taken is shut
  pub shut : (z : ℕ) → mapped_at rows cols dir z ≡ true → slice_index waiting z < shut_waits → stands_in order p z ≡ 0

-- the cell that is in hand after one was taken that points at y: none, or y if it waits for none; one from the bound on may be left for its turn in the grid
pub record Following (n bound : ℕ) (words : List ℕ) (y hand : ℕ) : Type 0 where
  pub some : hand < n → (hand ≡ y) × (slice_index words y < wait_place)
  pub none : y < bound → slice_index words y < wait_place → hand ≡ y
