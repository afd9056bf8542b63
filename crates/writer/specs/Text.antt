-- RULES 10.3: the text of a grid. Assumes nothing.
use Rattle.std.specs.Prelude.{List, [], ◌∷◌, ◌++◌, ℕ, zero, suc, pos, take, drop}
use Rattle.text.specs.Bytes.{bytes}
use Rattle.numerals.specs.Words.{decimal, line}
use Rattle.writer.specs.Words.{none, metres}

-- what the header says: shape, cell side in cm, and the two corner words
pub record Frame : Type 0 where
  pub rows : ℕ
  pub columns : ℕ
  pub side : ℕ
  pub x : List ℕ
  pub y : List ℕ

abbrev pub frame : ℕ → ℕ → ℕ → List ℕ → List ℕ → Frame
frame rows columns side x y = record { rows = rows; columns = columns; side = side; x = x; y = y }

-- one name and number to a line. Header in the order of document 01 and in small letters, nodata_value -9999 always written; the corner
-- words are copied unchanged
unfoldable pub header_words : Frame → List (List (List ℕ))
unfolding bytes decimal metres none
header_words f =
    (bytes "ncols" ∷ decimal f.columns ∷ [])
    ∷ (bytes "nrows" ∷ decimal f.rows ∷ [])
    ∷ (bytes "xllcorner" ∷ f.x ∷ [])
    ∷ (bytes "yllcorner" ∷ f.y ∷ [])
    ∷ (bytes "cellsize" ∷ metres (pos f.side) ∷ [])
    ∷ (bytes "nodata_value" ∷ none ∷ [])
    ∷ []

-- then one line per row: n rows of so many words, which stand in row order
unfoldable pub row_words : ℕ → ℕ → List (List ℕ) → List (List (List ℕ))
row_words columns zero words = []
row_words columns (suc n) words = take columns words ∷ row_words columns n (drop columns words)

-- one line after the other: one space between two words, LF after each line
unfoldable pub lines : List (List (List ℕ)) → List ℕ
unfolding line
lines [] = []
lines (words ∷ rest) = line words ++ lines rest

-- the whole text of a grid whose cells get these words
unfoldable pub text_of : Frame → List (List ℕ) → List ℕ
unfolding header_words row_words lines
text_of f words = lines (header_words f) ++ lines (row_words f.columns f.rows words)
