-- RULES 10.4: a room in which every text of a shape fits. Assumes nothing.
use Rattle.std.specs.Prelude.{◌≡◌, cond, ◌&&◌, List, ℕ, ◌+◌, ◌*◌, ◌≤◌, ◌<◌, ℤ, length, get_or}
use Rattle.laws.specs.Tests.{failed}
use Rattle.text.specs.Ranges.{size_accepted}
use Rattle.writer.specs.Text.{frame}
use Rattle.writer.specs.Answers.{height_cells, count_cells, factor_cells, direction_cells, judged}

-- 114 bytes for the header, and 12 for a cell with the byte after it; none for a shape that is refused
unfoldable pub room_for : ℕ → ℕ → ℕ
unfolding size_accepted
room_for rows columns = cond (size_accepted rows && size_accepted columns) (114 + 12 * (rows * columns)) 0

-- every number of a list is below b; so are counts and LS below 4,294,967,296, which are 32 bits each, and directions, bytes, below 256
abbrev pub EachBelow : ℕ → List ℕ → Type 0
EachBelow b l = (k : ℕ) → k < length l → get_or l k 0 < b

-- a room of n bytes or more is never too short: no call that is lent it is refused with 13
pub record Holds (rows columns n : ℕ) : Type 0 where
  pub heights : (side : ℕ) (x y : List ℕ) (heights : List ℤ) (room : List ℕ) → n ≤ length room
      → judged (frame rows columns side x y) (height_cells (frame rows columns side x y) heights) room ≡ failed 13 0 → ⊥
  pub counts : (side : ℕ) (x y counts room : List ℕ) → EachBelow 4294967296 counts → n ≤ length room
      → judged (frame rows columns side x y) (count_cells counts) room ≡ failed 13 0 → ⊥
  pub factors : (side : ℕ) (x y factors room : List ℕ) → EachBelow 4294967296 factors → n ≤ length room
      → judged (frame rows columns side x y) (factor_cells factors) room ≡ failed 13 0 → ⊥
  pub directions : (side : ℕ) (x y directions room : List ℕ) → EachBelow 256 directions → n ≤ length room
      → judged (frame rows columns side x y) (direction_cells directions) room ≡ failed 13 0 → ⊥
