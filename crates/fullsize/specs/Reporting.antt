-- RULES 12.4: a report as fourteen numbers, and the calls of the report with settings as numbers. Assumes nothing.
use Rattle.std.specs.Prelude.{List, [], ◌∷◌, ◌++◌, cond, ℕ, get_or, eqb, Option, None, Some, Result, Ok, Err}
use Rattle.laws.specs.Slices.{Lent}
use Rattle.laws.specs.Tests.{Test, verdict}
use Rattle.report.specs.declared.Greatest.{Greatest}
use Rattle.report.specs.declared.Report.{Report}
use Rattle.text.specs.Faults.{number_of}
use Rattle.text.specs.declared.Refusal.{Refusal}
use Rattle.factor.specs.Farms.{mark_tests}
use Rattle.report.specs.Maps.{Map, cells_of}
use Rattle.report.specs.Reports.{found, report_of}
use Rattle.report.specs.Joins.{joined}
use Rattle.report.specs.Answers.{Reported, early_tests, fit_test, outcome_of}

-- ---- a report as numbers

-- whether there is a greatest, then the LS, its map and its cell
unfoldable pub greatest_from : ℕ → ℕ → ℕ → ℕ → Option Greatest
greatest_from some factor map cell = cond (eqb some 0) None (found factor map cell)

unfoldable pub greatest_numbers : Option Greatest → List ℕ
greatest_numbers None = 0 ∷ 0 ∷ 0 ∷ 0 ∷ []
greatest_numbers (Some g) = 1 ∷ g.factor ∷ g.map ∷ g.cell ∷ []

-- the report that fourteen numbers stand for
unfoldable pub report_from : List ℕ → Report
unfolding greatest_from
report_from l =
    record {
      maps = get_or l 0 0;
      valid = get_or l 1 0;
      channel = get_or l 2 0;
      zero = get_or l 3 0;
      long = get_or l 4 0;
      sum = get_or l 5 0;
      under1 = get_or l 6 0;
      from1 = get_or l 7 0;
      from5 = get_or l 8 0;
      from10 = get_or l 9 0;
      greatest = greatest_from (get_or l 10 0) (get_or l 11 0) (get_or l 12 0) (get_or l 13 0);
    }

-- a report comes back from its numbers as it was (the law `back-report`)
unfoldable pub numbers_from : Report → List ℕ
unfolding greatest_numbers
numbers_from r =
    r.maps ∷ r.valid ∷ r.channel ∷ r.zero ∷ r.long ∷ r.sum ∷ r.under1 ∷ r.from1 ∷ r.from5 ∷ r.from10 ∷ greatest_numbers r.greatest

-- ---- what a call answers

-- number and place, and the fourteen numbers afterwards
pub record Reporting : Type 0 where
  pub number : ℕ
  pub place : ℕ
  pub numbers : List ℕ

abbrev pub reporting : ℕ → ℕ → List ℕ → Reporting
reporting number place numbers = record { number = number; place = place; numbers = numbers }

-- accepted, the next report's numbers; refused, those that were given, whatever they are
unfoldable pub reporting_of : List ℕ → Result (Unit {0}) Refusal → Report → Reporting
unfolding numbers_from
reporting_of given (Ok done) report = reporting 0 0 (numbers_from report)
reporting_of given (Err f) report = reporting (number_of f.fault) f.place given

abbrev pub reporting_for : List ℕ → Reported → Reporting
reporting_for given r = reporting_of given r.answer r.report

-- what is answered, the result being the number of the refusal
abbrev pub reporting_after : ℕ → Lent ℕ → Lent (List ℕ) → Reporting
reporting_after number place numbers = reporting number place.exit.now numbers.exit.now

-- ---- an addition, with the numbers of the formulas judged after the other settings and before the marks and 16

unfoldable pub added_by : Report → Map → List Test → Reported
unfolding joined report_of early_tests fit_test verdict outcome_of
added_by report m formulas =
    let next = joined report (report_of (m ∷ [])) in
    outcome_of report next (verdict (early_tests m ++ (formulas ++ (mark_tests (cells_of m) m.farms ++ (fit_test next ∷ [])))))
