-- RULES 12.4 and 12.5: what the calls of a report answer, and the report that they give back; the laws of Additions say what it is of a list. Assumes nothing.
use Rattle.std.specs.Prelude.{List, [], ◌∷◌, ◌++◌, ◌≡◌, length, Result, Ok, Err}
use Rattle.laws.specs.Tests.{Test, passed, failed, test, verdict}
use Rattle.text.specs.Ranges.{size_test, length_test}
use Rattle.settings.specs.declared.Settings.{Settings}
use Rattle.settings.specs.declared.Rules.{Rules}
use Rattle.settings.specs.Settings.{rules_of, settings_test}
use Rattle.factor.specs.Farms.{mark_places, settings_tests, mark_test, mark_tests}
use Rattle.factor.specs.Answers.{found}
use Rattle.factor.specs.declared.tests.FarmRules.{FarmRules}
use Rattle.report.specs.Maps.{Map, cells_of}
use Rattle.report.specs.Reports.{report_of}
use Rattle.report.specs.Joins.{joined, fits}
use Rattle.text.specs.declared.Refusal.{Refusal}
use Rattle.text.specs.Faults.{fault_of}
use Rattle.report.specs.declared.Report.{Report}

-- 1, 2 and 4 as the map call has them
unfoldable pub early_tests : Map → List Test
unfolding size_test length_test settings_test
early_tests m =
    size_test m.rows m.columns
    ∷ length_test (cells_of m) (mark_places m.farms ++ (length m.count ∷ length m.factors ∷ []))
    ∷ settings_tests m.farms

-- the same, and then 19
unfoldable pub map_tests : Map → List Test
unfolding early_tests mark_test
map_tests m = early_tests m ++ mark_tests (cells_of m) m.farms

-- 16: a total, the number of maps or the greatest's map would no longer fit 64 bits
unfoldable pub fit_test : Report → Test
unfolding fits
fit_test r = test (fits r) 16 0

-- an answer with the report afterwards
pub record Reported : Type 0 where
  pub answer : Result (Unit {0}) Refusal
  pub report : Report

abbrev pub outcome : Result (Unit {0}) Refusal → Report → Reported
outcome answer report = record { answer = answer; report = report }

-- what a verdict makes of a report: the next one, or at a refusal the same
unfoldable pub outcome_of : Report → Report → Test → Reported
unfolding fault_of
outcome_of report next passed = outcome (Ok tt) next
outcome_of report next (failed number place) = outcome (Err (record { fault = fault_of number; place = place })) report

-- the whole of a join
unfoldable pub after_join : Report → Report → Reported
unfolding joined fit_test verdict outcome_of
after_join report other = let next = joined report other in outcome_of report next (verdict (fit_test next ∷ []))

-- the whole of an addition: a join with the report of the one map, once its own tests are passed
unfoldable pub after_add : Report → Map → Reported
unfolding joined report_of map_tests fit_test verdict outcome_of
after_add report m = let next = joined report (report_of (m ∷ [])) in outcome_of report next (verdict (map_tests m ++ (fit_test next ∷ [])))

-- ---- the tests of a map by themselves

-- the rules that the settings mean, or the refusal that the verdict tells
unfoldable pub judgement_for : Rules → Test → Result Rules Refusal
unfolding fault_of
judgement_for rules passed = Ok rules
judgement_for rules (failed number place) = Err (record { fault = fault_of number; place = place })

unfoldable pub judgement_of : Settings → Map → Result Rules Refusal
unfolding rules_of map_tests verdict judgement_for
judgement_of settings m = judgement_for (rules_of settings) (verdict (map_tests m))

-- what is found of a map of two farms; the rules are those of their settings
pub record JudgesFarms (first second : Settings) (m : Map) (r : Result FarmRules Refusal) : Type 0 where
  pub verdict-is : found r ≡ verdict (map_tests m)
  pub rules-are : (rules : FarmRules) → r ≡ Ok rules → (rules.first ≡ rules_of first) × (rules.second ≡ rules_of second)
