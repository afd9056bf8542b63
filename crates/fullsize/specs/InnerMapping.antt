-- Only inner functions cite this file: what a map call, and an addition to a report, answer where the number of a formula is none. Assumes nothing.
use Rattle.std.specs.Prelude.{cond, ℕ, eqb, leb, Option, None, Some}
use Rattle.laws.specs.Tests.{Test, passed, failed}
use Rattle.text.specs.Faults.{number_of}
use Rattle.text.specs.declared.Refusal.{Refusal}
use Rattle.text.specs.declared.faults.Fault.TheVariants.{Setting}

-- what the tests decide where there is no formula: the refusal that they found before it, or 4 at its place; 19 comes after it
abbrev pub before_marks : ℕ → Test → Test
before_marks place passed = failed 4 place
before_marks place (failed number at) = cond (eqb number 19) (failed 4 place) (failed number at)

-- the same of the refusal that the code found before it, if there is one
abbrev pub refusal_before : ℕ → Option Refusal → Refusal
refusal_before place None = record { fault = Setting; place = place }
refusal_before place (Some f) = cond (eqb (number_of f.fault) 19) (record { fault = Setting; place = place }) f

-- the place of the first of two farms' numbers that is no formula
unfoldable pub formula_place : ℕ → ℕ → Option ℕ
formula_place n m = cond (leb n 1) (cond (leb m 1) None (Some 8)) (Some 7)
