-- RULES 9: the lines that the printer shows. Assumes nothing.
use Rattle.std.specs.Prelude.{cond, List, [], ◌∷◌, ◌++◌, ℕ, zero, suc, ◌*◌, ◌/◌, ◌%◌, eqb, ℤ, pos, get_or, replicate}
use Rattle.text.specs.Bytes.{bytes}
use Rattle.text.specs.Heights.{same}
use Rattle.text.specs.Quantities.{no_data_height}
use Rattle.factor.specs.Cell.{too_long}
use Rattle.numerals.specs.Words.{decimal, integer, line}
use Rattle.sheet.specs.declared.lines.Cell.{Cell}
use Rattle.sheet.specs.declared.lines.Shape.{Shape}

-- A refusal prints `refused 7 at 52` and nothing else.
unfoldable pub refusal_line : ℕ → ℕ → List ℕ
unfolding decimal line bytes
refusal_line number place = line (bytes "refused" ∷ decimal number ∷ bytes "at" ∷ decimal place ∷ [])

-- too long shows `long`
unfoldable pub factor_word : ℕ → List ℕ
unfolding decimal bytes
factor_word n = cond (eqb n too_long) (bytes "long") (decimal n)

-- what a cell shows behind its row and column: ground, filled, direction, count, length, LS
unfoldable pub value_words : Cell → List (List ℕ)
unfolding decimal integer factor_word
value_words c =
    integer c.elevation ∷ integer c.filled ∷ decimal c.direction ∷ decimal c.count ∷ decimal c.length ∷ factor_word c.factor ∷ []

-- A NoData cell shows row, column and six times `-`
unfoldable pub shown_words : Cell → List (List ℕ)
unfolding value_words bytes
shown_words c = cond (same c.elevation no_data_height) (replicate 6 (bytes "-")) (value_words c)

-- then each cell's row, column, ground, filled, direction, count, length, LS
unfoldable pub cell_line : ℕ → ℕ → Cell → List ℕ
unfolding decimal line shown_words
cell_line row column c = line (decimal row ∷ decimal column ∷ shown_words c)

-- It prints rows, columns, side, valid cells and longest trail
unfoldable pub shape_line : Shape → List ℕ
unfolding decimal line
shape_line s = line (decimal s.rows ∷ decimal s.columns ∷ decimal s.side ∷ decimal s.valid ∷ decimal s.longest ∷ [])

-- a map's grids, in row order
pub record Grids : Type 0 where
  pub elevation : List ℤ
  pub filled : List ℤ
  pub direction : List ℕ
  pub count : List ℕ
  pub lengths : List ℕ
  pub factors : List ℕ

abbrev pub grids_of : List ℤ → List ℤ → List ℕ → List ℕ → List ℕ → List ℕ → Grids
grids_of elevation filled direction count lengths factors =
    record { elevation = elevation; filled = filled; direction = direction; count = count; lengths = lengths; factors = factors }

-- what stands at the cell x
abbrev pub cell_of : Grids → ℕ → Cell
cell_of g x =
    record {
      elevation = get_or g.elevation x (pos 0);
      filled = get_or g.filled x (pos 0);
      direction = get_or g.direction x 0;
      count = get_or g.count x 0;
      length = get_or g.lengths x 0;
      factor = get_or g.factors x 0;
    }

-- the lines of the first n cells
unfoldable pub cell_lines : ℕ → Grids → ℕ → List ℕ
unfolding cell_line
cell_lines columns g zero = []
cell_lines columns g (suc x) = cell_lines columns g x ++ cell_line (x / columns) (x % columns) (cell_of g x)

unfoldable pub map_lines : Shape → Grids → List ℕ
unfolding shape_line cell_lines
map_lines s g = shape_line s ++ cell_lines s.columns g (s.rows * s.columns)
