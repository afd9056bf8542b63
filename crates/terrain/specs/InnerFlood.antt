-- What the functions of `filled` and `queue` answer: only inner functions cite this file. Assumes nothing.
use Rattle.std.specs.Prelude.{◌≡◌, ℕ, ◌+◌, ◌*◌, ◌<◌, ◌≤◌, min, max, Bool, List, map, length, ℤ, nat_lt, slice_index, slice_index_or}
use Rattle.laws.specs.Search.{Failing}
use Rattle.laws.specs.Settle.{Kept, Sweeping, relaxed_of}
use Rattle.terrain.specs.Cells.{level_of, levels_of}
use Rattle.terrain.specs.InnerCells.{Ready, Sized}
use Rattle.terrain.specs.Surfaces.{Run, highest_of}
use Rattle.terrain.specs.Filled.{top, lowest_of, filling}

-- a count m of a cell of level v: if it is 0, the cell is not below its ground u, and no higher than that and the lowest level `low` beside it allow
pub record FaultyCell (v u low m : ℕ) : Type 0 where
  pub few : m ≤ 1
  pub above : m ≡ 0 → u ≤ v
  pub still : m ≡ 0 → v ≤ max u low

-- a run from x stays at or below the level v: what every lowering of x to v has to show
abbrev pub Stands : ℕ → ℕ → List ℤ → ℕ → ℕ → Type 0
Stands rows cols elevation x v = (r : Run rows cols elevation x) × (level_of (highest_of rows cols elevation r) ≤ v)

module _ (rows cols : ℕ) (elevation : List ℤ) where
  -- the filling's rule: what the cell x may be lowered to
  abbrev pub offer_at : List ℕ → ℕ → ℕ
  offer_at = (filling rows cols (levels_of elevation)).offer

  -- every list on the way down
  abbrev pub FillKept : List ℕ → Type 0
  FillKept = Kept (filling rows cols (levels_of elevation)) (Stands rows cols elevation)

  -- a sweep
  abbrev pub FillSweeping : List ℕ → List ℕ → ℕ → Bool → Type 0
  FillSweeping = Sweeping (filling rows cols (levels_of elevation)) (Stands rows cols elevation)

  -- the cell x is not below its ground, and cannot be lowered; and a search for cells of which this fails
  pub record Steady (l : List ℕ) (x : ℕ) : Type 0 where
    pub above : slice_index_or (levels_of elevation) x 0 ≤ slice_index l x
    pub still : slice_index_or l x 0 ≤ offer_at l x

  abbrev pub Faulty : List ℕ → ℕ → ℕ → ℕ → Type 0
  Faulty l = Failing (Steady l)

  -- the cell x of l₀ was lowered, if it could be
  pub record Lowered (l₀ l : List ℕ) (x : ℕ) (lowered : Bool) : Type 0 where
    pub told : lowered ≡ nat_lt (offer_at l₀ x) (slice_index l₀ x)
    pub is : l ≡ relaxed_of (filling rows cols (levels_of elevation)) l₀ x

-- ---- the words of the flood: one below `top` is the level of a cell that is done; any other is of a cell that is not, and stands for the top

-- the levels that words stand for
unfoldable pub done_of : List ℕ → List ℕ
done_of words = map (λ w. min w top) words

-- words from here on are those of cells that wait in a list
abbrev pub queued_from : ℕ
queued_from = 2147483648

-- from l₀ to l every word goes on standing for its level, and every cell that was queued is one of P
pub record Queueing (P : ℕ → Type 0) (l₀ l : List ℕ) : Type 0 where
  pub same : done_of l ≡ done_of l₀
  pub new : (z : ℕ) → slice_index l₀ z < queued_from → queued_from ≤ slice_index l z → P z

-- the cell z is one of from, from + step and so on, before `to`
pub record OnLine (from step to z : ℕ) : Type 0 where
  pub turns : ℕ
  pub is : z ≡ from + turns * step
  pub before : z < to

-- beside every cell that waits in a list lies one that is not above b
pub record Waiting (rows cols : ℕ) (l : List ℕ) (b : ℕ) : Type 0 where
  pub low : (y : ℕ) → queued_from ≤ slice_index l y → lowest_of rows cols l y 8 ≤ b

-- from l₀ to l rim cells were queued, and nothing else: for every number of rows that fits, so that one step follows another with no length told between
pub record Rimming (cols : ℕ) (l₀ l : List ℕ) : Type 0 where
  pub same : done_of l ≡ done_of l₀
  pub waiting : (rows : ℕ) → Sized rows cols → length l₀ ≡ rows * cols → Waiting rows cols l₀ 0 → Waiting rows cols l 0

-- the level of a list, while a band is being emptied
abbrev pub level_in : ℕ → ℕ → ℕ
level_in band list = (band + 926) * 1024 + list

-- no cell that is done is below its ground
abbrev pub Above : List ℤ → List ℕ → Type 0
Above elevation l = (x : ℕ) → slice_index l x < top → slice_index (levels_of elevation) x ≤ slice_index l x

-- the words l came from l₀ by giving cells levels that are not below a neighbour's: if in the end none is below its ground, that was lowering
pub record Flooded (rows cols : ℕ) (l₀ l : List ℕ) : Type 0 where
  pub long : length l ≡ length l₀
  pub above : (elevation : List ℤ) → Above elevation (done_of l) → Above elevation (done_of l₀)
  pub kept : (elevation : List ℤ) → Ready rows cols elevation → Above elevation (done_of l) → FillKept rows cols elevation (done_of l₀) → FillKept rows cols elevation (done_of l)

-- and every cell that waits has one beside it that is not above b, the level in hand: what is done is not above that, and a cell is queued beside one that is done
pub record FloodedTo (rows cols : ℕ) (l₀ l : List ℕ) (b : ℕ) : Type 0 where
  pub flooded : Flooded rows cols l₀ l
  pub waiting : Waiting rows cols l b
