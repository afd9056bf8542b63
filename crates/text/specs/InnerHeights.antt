-- What the functions of `heights` ask and answer, in terms of the definitions: only inner functions cite this file. Assumes nothing.
use Rattle.std.specs.Prelude.{ℕ, List, [], T, ℤ, pos, length, Result, IfOk}
use Rattle.std.specs.Int.Signed.{le_z}
use Rattle.text.specs.Quantities.{no_data_height}
use Rattle.text.specs.Reader.{Step, got, refused}
use Rattle.text.specs.Headers as H
use Rattle.text.specs.Heights.{body}
use Rattle.text.specs.Answers.{GridOutcome, accepted, refusal}
use Rattle.text.specs.declared.Refusal.{Refusal}
use Rattle.text.specs.declared.words.Read.{Read}

-- a height that was read is NoData or within the range
abbrev pub HeightFits : Result (Read ℤ) Refusal → Type 0
HeightFits r = IfOk r (λ x. T (le_z no_data_height x.value) × T (le_z x.value (pos 900000)))

-- whether the heights are good, and where they end
abbrev pub forget : Step (List ℤ) → Step Unit
forget (got hs i) = got tt i
forget (refused n p) = refused n p

abbrev pub Good : Step (List ℤ) → Type 0
Good (got hs i) = Unit
Good (refused n p) = ⊥

-- the heights that were read; none after a refusal
abbrev pub values_of : Step (List ℤ) → List ℤ
values_of (got hs i) = hs
values_of (refused n p) = []

-- the whole answer after a good header h
abbrev pub body_outcome : H.Header → List ℤ → Step (List ℤ) → GridOutcome
body_outcome h lent (got hs i) = record { answer = accepted h; heights = hs }
body_outcome h lent (refused n p) = record { answer = refusal n p; heights = lent }

-- the same of a text, read on from the place i
abbrev pub body_answer : H.Header → List ℤ → List ℕ → ℕ → GridOutcome
body_answer h lent s i = body_outcome h lent (body h (length lent) s i)
