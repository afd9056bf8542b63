-- Laws of a sheet's lines: what a cell shows, by its ground, and the lines of one cell more. Assumes nothing.
use mathlib.Core.Path.{◌≡◌, refl, ap}
use mathlib.Core.Bool.{Bool, true, false, cond}
use mathlib.Core.List.{List, [], ◌∷◌, ◌++◌}
use Prim.Native.Nat.{ℕ, ◌+◌, ◌/◌, ◌%◌}
use native.Mathlib.Numerals.{add-one}
use lib.ListN.{replicate}
use Rattle.text.specs.Bytes.{bytes}
use Rattle.text.specs.Heights.{same}
use Rattle.text.specs.Quantities.{no_data_height}
use Rattle.numerals.specs.Words.{decimal, line}
use Rattle.sheet.specs.Lines.{value_words, shown_words, cell_line, Grids, cell_of, cell_lines}
use Rattle.numerals.specs.Writing.{Wrote}
use Rattle.numerals.proofs.Writing.{wrote_none, wrote_as, wrote_then}
use Rattle.sheet.specs.declared.lines.Cell.{Cell}

either : (b : Bool) (w v x y : List ℕ) (xs ys : List (List ℕ)) → line (w ∷ v ∷ cond b (x ∷ xs) (y ∷ ys)) ≡ w ++ (32 ∷ (v ++ (32 ∷ line (cond b (x ∷ xs) (y ∷ ys)))))
unfolding line
either true w v x y xs ys = refl
either false w v x y xs ys = refl

-- what a cell shows stands behind its row and column
pub cell-line : (row column : ℕ) (c : Cell) → cell_line row column c ≡ decimal row ++ (32 ∷ (decimal column ++ (32 ∷ line (shown_words c))))
unfolding cell_line shown_words value_words
cell-line row column c = either (same c.elevation no_data_height) (decimal row) (decimal column) _ _ _ _

-- a NoData cell, and any other
pub shown-none : (c : Cell) → same c.elevation no_data_height ≡ true → shown_words c ≡ replicate 6 (bytes "-")
unfolding shown_words
shown-none c h = ap (λ (b : Bool). cond b (replicate 6 (bytes "-")) (value_words c)) h

pub shown-values : (c : Cell) → same c.elevation no_data_height ≡ false → shown_words c ≡ value_words c
unfolding shown_words
shown-values c h = ap (λ (b : Bool). cond b (replicate 6 (bytes "-")) (value_words c)) h

-- a number as it was converted, and the byte after it
pub number-as : {room after : List ℕ} {at next m n : ℕ} (b : ℕ) → m ≡ n → Wrote room at (decimal m ++ (b ∷ [])) next after
    → Wrote room at (decimal n ++ (b ∷ [])) next after
number-as b e p = wrote_as (ap (λ (k : ℕ). decimal k ++ (b ∷ [])) e) p

-- ---- the lines of a map's cells

module _ (columns : ℕ) (g : Grids) where
  pub cells-none : (room : List ℕ) (at : ℕ) → Wrote room at (cell_lines columns g 0) at room
  unfolding cell_lines
  cells-none room at = wrote_none room at

  -- the cell x as it was read
  pub cells-more : {room mid after : List ℕ} {at next end : ℕ} (x : ℕ) (c : Cell) → c ≡ cell_of g x → Wrote room at (cell_lines columns g x) next mid
      → Wrote mid next (cell_line (x / columns) (x % columns) c) end after → Wrote room at (cell_lines columns g (x + 1)) end after
  unfolding cell_lines
  cells-more x c e p q = rw add-one (wrote_then p (wrote_as (ap (cell_line (x / columns) (x % columns)) e) q))
