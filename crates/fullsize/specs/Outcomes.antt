-- RULES 7.3: What a call gives, as the outcome that the wrapped call's promise speaks of: the number is the result, and the rest stands in the lent numbers. Assumes nothing.
use Rattle.std.specs.Prelude.{ℕ, List, ℤ, pos}
use Rattle.text.specs.Answers.{Outcome, GridOutcome}
use Rattle.text.specs.declared.Corners.{Corners}
use Rattle.factor.specs.Answers.{Numbers}
use Rattle.writer.specs.Answers as W

-- of the header call and the reader call: number and place, and the four numbers
abbrev pub reading : ℕ → ℕ → ℕ → ℕ → ℕ → ℤ → Outcome
reading number place rows columns side no_data = record { number = number; place = place; rows = rows; columns = columns; side = pos side; no_data = no_data }

-- of the header call too: the first byte and the length of each corner's word
abbrev pub standing : ℕ → ℕ → ℕ → ℕ → Corners
standing x_first x_length y_first y_length = record { x = record { first = x_first; length = x_length }; y = record { first = y_first; length = y_length } }

-- of the reader call: the answer with the lent heights afterwards
abbrev pub grid_reading : Outcome → List ℤ → GridOutcome
grid_reading answer heights = record { answer = answer; heights = heights }

-- of the map call: number and place, the number of valid cells and the steps of the longest trail
abbrev pub mapping : ℕ → ℕ → ℕ → ℕ → Numbers
mapping number place valids longest = record { number = number; place = place; valids = valids; longest = longest }

-- of a call that writes a text: number and place, and the text's length
abbrev pub writing : ℕ → ℕ → ℕ → W.Numbers
writing number place length = record { number = number; place = place; length = length }
