-- What the functions of `cells` ask and answer, in terms of the definitions: only inner functions cite this file. Assumes nothing.
use Rattle.std.specs.Prelude.{List, [], ℕ, ◌≤◌, ℤ, length, cond, ltb, Option, Some, None, Result, Ok, Err}
use Rattle.text.specs.Faults.{number_of}
use Rattle.text.specs.Reader.{Step, got, refused}
use Rattle.text.specs.declared.Refusal.{Refusal}
use Rattle.text.specs.declared.faults.Fault.{Fault}
use Rattle.text.specs.Headers.{Header}
use Rattle.text.specs.Answers.{GridOutcome, grid_outcome}
use Rattle.floats.specs.Floats.{bits_at}
use Rattle.floats.specs.Answers.{fault_of, first_fault, grid_with}

-- the number of a fault; 0 where there is none
abbrev pub number_or_none : Option Fault → ℕ
number_or_none (Some f) = number_of f
number_or_none None = 0

-- whether k cells are good, as the step of a reading: the first one with a fault decides
abbrev pub judged_of : Result Unit Refusal → Step Unit
judged_of (Ok _) = got tt 0
judged_of (Err f) = refused (number_of f.fault) f.place

abbrev pub judged : ℕ → List ℕ → ℕ → Step Unit
judged v floats k = let x = first_fault v floats k in cond (ltb x k) (refused (fault_of v (bits_at floats x)) x) (got tt 0)

-- rows and columns that were accepted
pub record Fits (rows columns : ℕ) : Type 0 where
  pub rows_few : rows ≤ 1024
  pub columns-few : columns ≤ 1024

-- the answer after a good header h; where its text ends does not matter any more
abbrev pub body_answer : Header → List ℤ → List ℕ → GridOutcome
body_answer h lent floats = grid_outcome lent (grid_with h floats (length lent) [] 0)
