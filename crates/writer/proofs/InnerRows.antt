-- The rows of a grid are its cells one after the other, each word with the byte after it. Assumes nothing.
use mathlib.Core.Path.{◌≡◌, refl, ap, ◌∙◌}
use mathlib.Core.List.{List, [], ◌∷◌, ◌++◌, append_assoc}
use Prim.Native.Nat.{ℕ, zero, suc, ◌+◌, ◌*◌, ◌<◌}
use native.Mathlib.Nat.{suc-mul}
use native.Mathlib.Omega.{arith}
use borrow.Author.Tests.{eq-eqb, ne_eqb}
use lib.ListN.{length, take, drop, length-drop, take-append-drop}
use lib.Seq.{length-take-le}
use Rattle.numerals.specs.Words.{line}
use Rattle.writer.specs.Text.{Frame, header_words, row_words, lines, text_of}
use Rattle.writer.specs.InnerCells.{gap_of, column_after, cells_from}

-- a row from its column c on, and the rows after it
row-flat : (columns c : ℕ) (w : List ℕ) (row rest : List (List ℕ)) → c + length (w ∷ row) ≡ columns
    → line (w ∷ row) ++ cells_from columns 0 rest ≡ cells_from columns c ((w ∷ row) ++ rest)
unfolding line cells_from gap_of column_after
row-flat columns c w [] rest e = rw (eq-eqb (c + 1) columns e, append_assoc)
row-flat columns c w (v ∷ row) rest e = rw (ne_eqb (c + 1) columns (λ z. omega arith), append_assoc, row-flat columns (c + 1) v row rest (omega arith))

-- the same of a row that is any list of so many words
whole_row : (columns : ℕ) (row rest : List (List ℕ)) → 0 < columns → length row ≡ columns
    → line row ++ cells_from columns 0 rest ≡ cells_from columns 0 (row ++ rest)
whole_row columns [] rest h e = absurd (omega arith)
whole_row columns (w ∷ row) rest h e = row-flat columns 0 w row rest (omega arith)

pub rows-flat : (columns n : ℕ) (words : List (List ℕ)) → 0 < columns → length words ≡ n * columns
    → lines (row_words columns n words) ≡ cells_from columns 0 words
unfolding lines row_words cells_from
rows-flat columns zero [] h e = refl
rows-flat columns zero (w ∷ words) h e = absurd (omega arith)
rows-flat columns (suc n) words h e =
    let long : length words ≡ n * columns + columns = e ∙ suc-mul n columns in
    let rest = drop columns words in
    ap (λ (u : List ℕ). line (take columns words) ++ u) (rows-flat columns n rest h (omega (arith, length-drop columns words)))
    ∙ whole_row columns (take columns words) rest h (length-take-le columns words (omega arith))
    ∙ ap (cells_from columns 0) (take-append-drop columns words)

-- a whole text: the header's lines, then the cells
pub text-flat : (f : Frame) (words : List (List ℕ)) → 0 < f.columns → length words ≡ f.rows * f.columns
    → text_of f words ≡ lines (header_words f) ++ cells_from f.columns 0 words
unfolding text_of
text-flat f words h e = ap (λ (u : List ℕ). lines (header_words f) ++ u) (rows-flat f.columns f.rows words h e)
