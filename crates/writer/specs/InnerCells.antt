-- The cells of a grid one after the other, each word with the byte after it: only inner functions cite this file. Assumes nothing.
use Rattle.std.specs.Prelude.{cond, List, [], ◌∷◌, ◌++◌, map, ℕ, ◌+◌, eqb, length}
use Rattle.writer.specs.Answers.{Cells}

-- the byte after the word in a column: LF after the last one of a row, else a space
unfoldable pub gap_of : ℕ → ℕ → ℕ
gap_of columns c = cond (eqb (c + 1) columns) 10 32

-- the column of the next word
unfoldable pub column_after : ℕ → ℕ → ℕ
column_after columns c = cond (eqb (c + 1) columns) 0 (c + 1)

-- the words from the column c on, each with the byte after it
unfoldable pub cells_from : ℕ → ℕ → List (List ℕ) → List ℕ
unfolding gap_of column_after
cells_from columns c [] = []
cells_from columns c (w ∷ ws) = w ++ (gap_of columns c ∷ cells_from columns (column_after columns c) ws)

-- how many bytes these are
unfoldable pub bytes_of : List (List ℕ) → ℕ
bytes_of [] = 0
bytes_of (w ∷ ws) = length w + 1 + bytes_of ws

-- cells of which each is good and gets its word
abbrev pub good_cells : {A : Type 0} → (A → List ℕ) → List A → Cells
good_cells word cells = record { number = length cells; tests = []; words = map word cells }
