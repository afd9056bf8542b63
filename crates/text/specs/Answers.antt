-- RULES 2.5, 3 and 11.3: the answers of the calls that read a text, as the promises state them. Assumes nothing.
use Rattle.std.specs.Prelude.{ℕ, List, ℤ, pos, length, Result, Ok, Err}
use Rattle.text.specs.Reader.{Step, got, refused}
use Rattle.text.specs.Headers as H
use Rattle.text.specs.Heights as G
use Rattle.text.specs.declared.Span.{Span}
use Rattle.text.specs.declared.Corners.{Corners}
use Rattle.text.specs.declared.Header.{Header}
use Rattle.text.specs.declared.Head.{Head}
use Rattle.text.specs.declared.Refusal.{Refusal}
use Rattle.text.specs.Faults.{number_of}

-- number and place, and the four numbers
pub record Outcome : Type 0 where
  pub number : ℕ
  pub place : ℕ
  pub rows : ℕ
  pub columns : ℕ
  pub side : ℤ
  pub no_data : ℤ

-- An accepted call has number and place 0.
abbrev pub accepted : H.Header → Outcome
accepted h = record { number = 0; place = 0; rows = h.rows; columns = h.columns; side = h.side; no_data = h.no_data }

-- A refusal returns number and place with every other number 0.
abbrev pub refusal : ℕ → ℕ → Outcome
refusal n p = record { number = n; place = p; rows = 0; columns = 0; side = pos 0; no_data = pos 0 }

-- One call reads the header alone, answers rows, columns, side and NoData number in cm, and judges nothing after it.
abbrev pub header_outcome : Step H.Header → Outcome
header_outcome (got h i) = accepted h
header_outcome (refused n p) = refusal n p

abbrev pub header_answer : List ℕ → Outcome
header_answer s = header_outcome (H.header s 0)

-- It also tells each corner word's first byte and length, zeros at a refusal.
abbrev pub no_span : Span
no_span = record { first = 0; length = 0 }

abbrev pub corners_outcome : Step H.Head → Corners
corners_outcome (got h i) = h.corners
corners_outcome (refused n p) = record { x = no_span; y = no_span }

abbrev pub corners_answer : List ℕ → Corners
corners_answer s = corners_outcome (H.head s 0)

-- Another reads a header that stands alone in its text: the same four numbers, and no word may follow it.
abbrev pub lone_header_answer : List ℕ → Outcome
lone_header_answer s = header_outcome (G.lone_header s 0)

-- the answer with the lent heights afterwards
pub record GridOutcome : Type 0 where
  pub answer : Outcome
  pub heights : List ℤ

-- The third reads the whole text into lent heights and answers the same four numbers. A refusal changes no lent grid.
abbrev pub grid_outcome : List ℤ → Step G.Grid → GridOutcome
grid_outcome lent (got g i) = record { answer = accepted g.header; heights = g.heights }
grid_outcome lent (refused n p) = record { answer = refusal n p; heights = lent }

abbrev pub grid_answer : List ℤ → List ℕ → GridOutcome
grid_answer lent s = grid_outcome lent (G.grid (length lent) s 0)

-- the header's numbers, and the number and the values of what a call answers
abbrev pub header_of : Header → H.Header
header_of h = record { rows = h.rows; columns = h.columns; side = pos h.side; no_data = h.no_data }

abbrev pub outcome_of : Result Header Refusal → Outcome
outcome_of (Ok h) = accepted (header_of h)
outcome_of (Err f) = refusal (number_of f.fault) f.place

abbrev pub head_outcome_of : Result Head Refusal → Outcome
head_outcome_of (Ok h) = accepted (header_of h.header)
head_outcome_of (Err f) = refusal (number_of f.fault) f.place

abbrev pub corners_of : Result Head Refusal → Corners
corners_of (Ok h) = h.corners
corners_of (Err f) = record { x = no_span; y = no_span }

abbrev pub grid_outcome_of : Result Header Refusal → List ℤ → GridOutcome
grid_outcome_of r heights = record { answer = outcome_of r; heights = heights }
