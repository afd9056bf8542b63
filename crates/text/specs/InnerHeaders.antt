-- What the functions of `headers` ask and answer, in terms of the definitions: only inner functions cite this file. Assumes nothing.
use Rattle.std.specs.Prelude.{ℕ, ◌≤◌, Result, IfOk}
use Rattle.text.specs.Headers as H
use Rattle.text.specs.Answers.{header_of}
use Rattle.text.specs.declared.Head.{Head}
use Rattle.text.specs.declared.Refusal.{Refusal}
use Rattle.text.specs.declared.words.Read.{Read}
use Rattle.text.specs.declared.headers.Extent.{Extent}

-- what each value stands for

abbrev pub extent_of : Extent → H.Extent
extent_of e = record { rows = e.rows; columns = e.columns }

abbrev pub head_of : Head → H.Head
head_of h = record { header = header_of h.header; corners = h.corners }

-- ---- rows and columns that were accepted

pub record Fits (rows columns : ℕ) : Type 0 where
  pub rows_few : rows ≤ 1024
  pub columns-few : columns ≤ 1024

abbrev pub HeadFits : Result (Read Head) Refusal → Type 0
HeadFits r = IfOk r (λ x. Fits x.value.header.rows x.value.header.columns)
