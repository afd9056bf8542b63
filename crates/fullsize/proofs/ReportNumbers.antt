-- A report as numbers comes back as it was; and an addition whose formulas are numbers: it is report's own, or refused with 4 at the place of the
-- first that is none. Assumes
-- nothing.
use mathlib.Core.Path.{◌≡◌, refl, sym, ap, ◌∙◌}
use mathlib.Core.List.{List, [], ◌∷◌, ◌++◌}
use mathlib.Core.Bool.{Bool, true, false, cond, ◌&&◌}
use Prim.Native.Nat.{ℕ}
use lib.Dec.{eqb}
use lib.ListN.{length, get_or}
use Rattle.laws.specs.Tests.{Test, passed, failed, verdict}
use Rattle.laws.proofs.Verdicts.{OfNumber, test-number, verdict-number}
use Rattle.std.specs.Prelude.{Option, None, Some, Result, Ok, Err}
use Rattle.std.specs.Result.{result_err}
use Rattle.text.specs.Faults.{number_of, fault_of}
use Rattle.text.specs.declared.Refusal.{Refusal}
use Rattle.text.specs.declared.faults.Fault.{Fault}
use Rattle.text.specs.declared.faults.Fault.TheVariants.{Setting}
use Rattle.text.proofs.FaultNumbers.{back-fault}
use Rattle.text.specs.Ranges.{size_accepted, all_long, size_test, length_test}
use Rattle.settings.specs.declared.Settings.{Settings}
use Rattle.settings.specs.Settings.{rules_of}
use Rattle.factor.specs.declared.tests.FarmRules.{FarmRules}
use Rattle.factor.specs.Farms.{one, two, mark_places, settings_tests, mark_tests}
use Rattle.factor.specs.Answers.{found}
use Rattle.factor.proofs.Judging.{joined_number, settings-number, marks-number}
use Rattle.report.specs.declared.Greatest.{Greatest}
use Rattle.report.specs.declared.Report.{Report}
use Rattle.report.specs.Maps.{Map, map_of, cells_of}
use Rattle.report.specs.Reports.{report_of}
use Rattle.report.specs.Joins.{joined}
use Rattle.report.specs.Answers.{Reported, early_tests, map_tests, fit_test, outcome, outcome_of, after_add, judgement_for, judgement_of, JudgesFarms}
use Rattle.fullsize.specs.Crossing.{two_formulas}
use Rattle.fullsize.specs.Reporting.{greatest_from, greatest_numbers, report_from, numbers_from, added_by}
use Rattle.fullsize.specs.InnerMapping.{before_marks, formula_place, refusal_before}
use Rattle.fullsize.proofs.Formulas.{NotOfMarks, OfMarks, formulas-pass, formulas-fail, two-fails}

-- ---- fourteen numbers

back-greatest : (g : Option Greatest) →
    let l = greatest_numbers g in
    greatest_from (get_or l 0 0) (get_or l 1 0) (get_or l 2 0) (get_or l 3 0) ≡ g
unfolding greatest_from greatest_numbers
back-greatest None = refl
back-greatest (Some g) = refl

-- the four numbers one by one
pub four_are : (g : Option Greatest) → let l = greatest_numbers g in get_or l 0 0 ∷ get_or l 1 0 ∷ get_or l 2 0 ∷ get_or l 3 0 ∷ [] ≡ l
unfolding greatest_numbers
four_are None = refl
four_are (Some g) = refl

-- no number of a report is lost
pub back-report : (r : Report) → report_from (numbers_from r) ≡ r
unfolding report_from numbers_from
back-report r =
    ap (λ (g : Option Greatest). record {
      maps = r.maps;
      valid = r.valid;
      channel = r.channel;
      zero = r.zero;
      long = r.long;
      sum = r.sum;
      under1 =
          r.under1;
      from1 = r.from1;
      from5 = r.from5;
      from10 = r.from10;
      greatest = g;
    })
    (back-greatest r.greatest)

-- ---- an addition

-- what holds of the number of a refusal by the early tests, if it does for 1, 2 and 4
early-number : (P : ℕ → Type 0) (m : Map) → P 1 → P 2 → P 4 → OfNumber P (verdict (early_tests m))
unfolding early_tests size_test length_test
early-number P m a b c =
    let long = length_test (cells_of m) (mark_places m.farms ++ (length m.count ∷ length m.factors ∷ [])) in
    verdict-number P (size_test m.rows m.columns) (long ∷ settings_tests m.farms)
    (test-number P (size_accepted m.rows && size_accepted m.columns) 1 0 a)
    (verdict-number P long (settings_tests m.farms)
    (test-number P (all_long (cells_of m) (mark_places m.farms ++ (length m.count ∷ length m.factors ∷ []))) 2 0 b)
    (settings-number P m.farms c))

-- a number of the table
abbrev InTable : ℕ → Type 0
InTable n = number_of (fault_of n) ≡ n

no-number : OfNumber InTable (verdict [])
unfolding verdict
no-number = tt

module _ (report : Report) (m : Map) (formulas : List Test) where
  abbrev next : Report
  next = joined report (report_of (m ∷ []))

  abbrev early : List Test
  early = early_tests m

  abbrev marks : List Test
  marks = mark_tests (cells_of m) m.farms

  tests-are : map_tests m ≡ early ++ marks
  unfolding map_tests
  tests-are = refl

  early-unmarked : OfNumber NotOfMarks (verdict (early_tests m))
  early-unmarked = early-number NotOfMarks m refl refl refl

  -- every number is a formula
  pub added_is : verdict formulas ≡ passed → {r : Reported} → r ≡ after_add report m → r ≡ added_by report m formulas
  unfolding after_add added_by
  added_is h e = e ∙ ap (outcome_of report next) (ap (λ (l : List Test). verdict (l ++ (fit_test next ∷ []))) tests-are
      ∙ formulas-pass early formulas marks (fit_test next ∷ []) h)

  -- one is not
  module _ {place : ℕ} (h : verdict formulas ≡ failed 4 place) where
    pub none-added : {t : Test} → t ≡ verdict (map_tests m) → outcome_of report next (before_marks place t) ≡ added_by report m formulas
    unfolding added_by
    none-added e =
        ap (λ (u : Test). outcome_of report next (before_marks place u)) (e ∙ ap verdict tests-are)
        ∙ ap (outcome_of report next) (formulas-fail early formulas marks (fit_test next ∷ []) h early-unmarked
        (marks-number OfMarks (cells_of m) m.farms refl))

-- ---- without a formula: a refusal that was found before it, or its own

none-told : (report then : Report) (place : ℕ) {A : Type 0} (k : Result A Refusal) →
    outcome (Err (refusal_before place (result_err k))) report ≡ outcome_of report then (before_marks place (found k))
unfolding outcome_of fault_of
none-told report then place (Ok a) = refl
none-told report then place (Err f) = go (eqb (number_of f.fault) 19)
  where
    go : (b : Bool) →
        outcome (Err (cond b (record { fault = Setting; place = place }) f)) report ≡ outcome_of report then (cond b (failed 4 place) (failed (number_of f.fault) f.place))
    go true = refl
    go false = ap (λ (k : Fault). outcome (Err (record { fault = k; place = f.place })) report) (sym (back-fault f.fault))

pub without-added : (report : Report) (m : Map) (formulas : List Test) {place : ℕ} → verdict formulas ≡ failed 4 place → {A : Type 0} (j : Result A Refusal) {f : Refusal} →
    found j ≡ verdict (map_tests m) → f ≡ refusal_before place (result_err j) → outcome (Err f) report ≡ added_by report m formulas
without-added report m formulas {place} h j e p =
    ap (λ (r : Refusal). outcome (Err r) report) p ∙ none-told report (next report m formulas) place j ∙ none-added report m formulas h e

-- ---- two farms, one of them without a formula

pub two-added : (report : Report) (rows cols : ℕ) (first second : Settings) (marks count factors : List ℕ) (n m : ℕ) {place : ℕ} → formula_place n m ≡ Some place →
    {j : Result FarmRules Refusal} {f : Refusal} → JudgesFarms first second (map_of rows cols (two first second marks) count factors) j →
    f ≡ refusal_before place (result_err j) →
    outcome (Err f) report ≡ added_by report (map_of rows cols (two first second marks) count factors) (two_formulas n m)
two-added report rows cols first second marks count factors n m h {j} judges e =
    without-added report (map_of rows cols (two first second marks) count factors) (two_formulas n m) (two-fails n m h) j judges.verdict-is e

-- ---- one farm's judgement tells the verdict

pub judged-found : (s : Settings) (rows columns : ℕ) (count factors : List ℕ) →
    let m = map_of rows columns (one s) count factors in found (judgement_of s m) ≡ verdict (map_tests m)
unfolding judgement_of judgement_for map_tests
judged-found s rows columns count factors = go (verdict (map_tests m)) rows-are
  where
    m : Map
    m = map_of rows columns (one s) count factors

    rows-are : OfNumber InTable (verdict (map_tests m))
    rows-are = joined_number InTable (early_tests m) [] (early-number InTable m refl refl refl) no-number

    go : (t : Test) → OfNumber InTable t → found (judgement_for (rules_of s) t) ≡ t
    go passed q = refl
    go (failed n p) q = ap (λ (k : ℕ). failed k p) q
