-- RULES 12.4: a report of a list of maps, and what a call makes of it: the report of the list with one map more, or of one list after the other,
-- if it fits, and else the same report with 16. Assumes nothing.
use mathlib.Core.Path.{◌≡◌, refl, sym, ap, ◌∙◌}
use mathlib.Core.List.{List, [], ◌∷◌, ◌++◌}
use mathlib.Core.Bool.{true, false}
use Prim.Native.Nat.{ℕ}
use native.Mathlib.Omega.{arith}
use Rattle.std.specs.Prelude.{Ok, Err}
use Rattle.laws.specs.Tests.{Test, passed, failed, verdict}
use Rattle.laws.proofs.Verdicts.{test-yes, test-no, verdict-next, verdict-stops, verdict-before, verdict-after, verdict-none}
use Rattle.text.specs.Faults.{fault_of}
use Rattle.report.specs.Maps.{Map}
use Rattle.report.specs.Reports.{report_of}
use Rattle.report.specs.Joins.{joined, fits}
use Rattle.report.specs.Answers.{Reported, map_tests, fit_test, outcome, outcome_of, after_join, after_add}
use Rattle.report.specs.declared.Report.{Report}
use Rattle.report.proofs.Lists.{report-append}

abbrev pub accepted : Report → Reported
accepted report = outcome (Ok tt) report

abbrev pub refused : ℕ → ℕ → Report → Reported
refused number place report = outcome (Err (record { fault = fault_of number; place = place })) report

-- ---- by the verdict

pub outcome-refused : (report next : Report) {t : Test} {n p : ℕ} → t ≡ failed n p → outcome_of report next t ≡ refused n p report
unfolding outcome_of
outcome-refused report next e = ap (outcome_of report next) e

pub outcome-accepted : (report next : Report) {t : Test} → t ≡ passed → outcome_of report next t ≡ accepted next
unfolding outcome_of
outcome-accepted report next e = ap (outcome_of report next) e

-- an outcome that is accepted is the next report
outcome-next : (report next : Report) (t : Test) → (outcome_of report next t).answer ≡ Ok tt → (outcome_of report next t).report ≡ next
unfolding outcome_of
outcome-next report next passed e = refl
outcome-next report next (failed n p) e = absurd (let z : ◌≡◌ {A = ℕ} 0 1 = cc in omega arith)

-- ---- joins

pub join-fits : (a b : Report) → fits (joined a b) ≡ true → after_join a b ≡ accepted (joined a b)
unfolding after_join fit_test
join-fits a b e = outcome-accepted a (joined a b) (verdict-next [] (test-yes 16 0 e) ∙ verdict-none)

pub join-full : (a b : Report) → fits (joined a b) ≡ false → after_join a b ≡ refused 16 0 a
unfolding after_join fit_test
join-full a b e = outcome-refused a (joined a b) (verdict-stops [] (test-no 16 0 e))

-- one list after the other
module _ (l k : List Map) where
  pub join-lists : fits (report_of (l ++ k)) ≡ true → after_join (report_of l) (report_of k) ≡ accepted (report_of (l ++ k))
  join-lists e = join-fits (report_of l) (report_of k) (ap fits (sym (report-append l k)) ∙ e) ∙ ap accepted (sym (report-append l k))

  pub join-lists-full : fits (report_of (l ++ k)) ≡ false → after_join (report_of l) (report_of k) ≡ refused 16 0 (report_of l)
  join-lists-full e = join-full (report_of l) (report_of k) (ap fits (sym (report-append l k)) ∙ e)

-- ---- additions

module _ (report : Report) (m : Map) where
  -- a test of the map refuses it
  pub add-refused : {n p : ℕ} → verdict (map_tests m) ≡ failed n p → after_add report m ≡ refused n p report
  unfolding after_add
  add-refused e = let next = joined report (report_of (m ∷ [])) in outcome-refused report next (verdict-before (map_tests m) (fit_test next ∷ []) e)

  -- they are passed: the map's own report is joined
  pub add-joins : verdict (map_tests m) ≡ passed → after_add report m ≡ after_join report (report_of (m ∷ []))
  unfolding after_add after_join
  add-joins e = let next = joined report (report_of (m ∷ [])) in ap (outcome_of report next) (verdict-after (map_tests m) (fit_test next ∷ []) e)

-- the list with one map more
module _ (l : List Map) (m : Map) where
  module _ (e : verdict (map_tests m) ≡ passed) where
    pub add-list : fits (report_of (l ++ (m ∷ []))) ≡ true → after_add (report_of l) m ≡ accepted (report_of (l ++ (m ∷ [])))
    add-list f = add-joins (report_of l) m e ∙ join-lists l (m ∷ []) f

    pub add-list-full : fits (report_of (l ++ (m ∷ []))) ≡ false → after_add (report_of l) m ≡ refused 16 0 (report_of l)
    add-list-full f = add-joins (report_of l) m e ∙ join-lists-full l (m ∷ []) f

  -- whenever the map is accepted
  pub add-accepted : (after_add (report_of l) m).answer ≡ Ok tt → (after_add (report_of l) m).report ≡ report_of (l ++ (m ∷ []))
  unfolding after_add
  add-accepted e =
      let next = joined (report_of l) (report_of (m ∷ [])) in
      outcome-next (report_of l) next (verdict (map_tests m ++ (fit_test next ∷ []))) e ∙ sym (report-append l (m ∷ []))
