-- The words that stand in a line from a place on, as the functions that write a line in turn promise them: only inner functions cite this file. Assumes nothing.
use Rattle.std.specs.Prelude.{List, [], ◌∷◌, ℕ}
use Rattle.text.specs.Bytes.{bytes}
use Rattle.numerals.specs.Words.{decimal}
use Rattle.sheet.specs.Lines.{factor_word}
use Rattle.sheet.specs.declared.lines.Cell.{Cell}
use Rattle.sheet.specs.declared.lines.Shape.{Shape}

-- a valid cell's words behind its count
abbrev pub length_words : Cell → List (List ℕ)
length_words c = decimal c.length ∷ factor_word c.factor ∷ []

-- behind its heights
abbrev pub flow_words : Cell → List (List ℕ)
flow_words c = decimal c.direction ∷ decimal c.count ∷ length_words c

-- a map's words behind rows and columns
abbrev pub summary_words : Shape → List (List ℕ)
summary_words s = decimal s.side ∷ decimal s.valid ∷ decimal s.longest ∷ []

-- a refusal's words behind its number
abbrev pub place_words : ℕ → List (List ℕ)
place_words place = bytes "at" ∷ decimal place ∷ []
