-- What the judgement of a map tells: which test refuses it, or that its grids are as long as its shape says. Assumes nothing.
use mathlib.Core.Path.{◌≡◌, refl, sym, ap, ◌∙◌}
use mathlib.Core.List.{List, [], ◌∷◌, ◌++◌}
use Prim.Native.Nat.{ℕ, ◌*◌, ◌≤◌}
use lib.ListN.{length}
use Rattle.std.specs.Prelude.{Ok, Err}
use Rattle.laws.specs.Tests.{Test, passed, failed, verdict}
use Rattle.laws.proofs.Verdicts.{verdict-passed}
use Rattle.text.specs.declared.Refusal.{Refusal}
use Rattle.text.specs.declared.faults.Fault.{Fault}
use Rattle.text.specs.Faults.{number_of, fault_of}
use Rattle.text.proofs.FaultNumbers.{back-fault}
use Rattle.text.specs.Ranges.{size_test, length_test}
use Rattle.text.proofs.Accepted.{area-few, size-passed, lengths-passed}
use Rattle.settings.specs.declared.Settings.{Settings}
use Rattle.settings.specs.declared.Rules.{Rules}
use Rattle.settings.specs.Settings.{rules_of}
use Rattle.factor.specs.Farms.{two, Marked, mark_places, farm_tests}
use Rattle.factor.specs.declared.tests.FarmRules.{FarmRules}
use Rattle.factor.proofs.Judging.{lent-long, marks-few}
use Rattle.report.specs.Maps.{Map, map_of, cells_of}
use Rattle.report.specs.Answers.{outcome, after_add, early_tests, map_tests, judgement_for, judgement_of, JudgesFarms}
use Rattle.report.specs.declared.Report.{Report}
use Rattle.report.proofs.Additions.{refused, add-refused}

-- the refusal of a fault's own number
pub refused-with : (f : Refusal) (report : Report) → refused (number_of f.fault) f.place report ≡ outcome (Err f) report
refused-with f report = ap (λ (k : Fault). outcome (Err (record { fault = k; place = f.place })) report) (back-fault f.fault)

module _ (m : Map) where
  pub judged-sound : (s : Settings) {rules : Rules} → Ok rules ≡ judgement_of s m → (verdict (map_tests m) ≡ passed) × (rules ≡ rules_of s)
  unfolding judgement_of judgement_for
  judged-sound s {rules} e = go (verdict (map_tests m)) e
    where
      go : (t : Test) → Ok rules ≡ judgement_for (rules_of s) t → (t ≡ passed) × (rules ≡ rules_of s)
      go passed q = (refl, cc)
      go (failed n p) q = absurd (cc)

  -- a refusal of the judgement is that of the addition
  pub judged-unsound : (s : Settings) (report : Report) {f : Refusal} → Err f ≡ judgement_of s m → outcome (Err f) report ≡ after_add report m
  unfolding judgement_of judgement_for
  judged-unsound s report {f} e = go (verdict (map_tests m)) refl e
    where
      go : (t : Test) → verdict (map_tests m) ≡ t → Err f ≡ judgement_for (rules_of s) t → outcome (Err f) report ≡ after_add report m
      go passed r q = absurd (cc)
      go (failed n p) r q =
          let w : f ≡ record { fault = fault_of n; place = p } = cc in
          ap (λ (g : Refusal). outcome (Err g) report) w ∙ sym (add-refused report m r)

  pub found-unsound : (report : Report) {f : Refusal} → failed (number_of f.fault) f.place ≡ verdict (map_tests m) → outcome (Err f) report ≡ after_add report m
  found-unsound report {f} e = sym (add-refused report m (sym e) ∙ refused-with f report)

  -- a map that is passed
  module _ (e : verdict (map_tests m) ≡ passed) where
    abbrev lengths : List ℕ
    lengths = length m.count ∷ length m.factors ∷ []

    abbrev chosen : List Test
    chosen = farm_tests (cells_of m) m.farms

    by_size : (size_test m.rows m.columns ≡ passed) × (verdict (length_test (cells_of m) (mark_places m.farms ++ lengths) ∷ chosen) ≡ passed)
    unfolding map_tests early_tests
    by_size = verdict-passed (size_test m.rows m.columns) (length_test (cells_of m) (mark_places m.farms ++ lengths) ∷ chosen) e

    by-long : (length_test (cells_of m) (mark_places m.farms ++ lengths) ≡ passed) × (verdict chosen ≡ passed)
    by-long = verdict-passed (length_test (cells_of m) (mark_places m.farms ++ lengths)) chosen by_size.1

    pub passed-long : (length m.count ≡ cells_of m) × (length m.factors ≡ cells_of m)
    passed-long =
        let w = lent-long (cells_of m) m.farms lengths (lengths-passed (cells_of m) (mark_places m.farms ++ lengths) by-long.0) in
        (w.0, w.1.0)

    pub passed-few : cells_of m ≤ 1048576
    passed-few = let w = size-passed m.rows m.columns by_size.0 in area-few m.rows m.columns w.0 w.1

-- the rules of two farms whose map is passed
pub farms-passed : {first second : Settings} {m : Map} {rules : FarmRules} → JudgesFarms first second m (Ok rules) →
    (verdict (map_tests m) ≡ passed) × ((rules.first ≡ rules_of first) × (rules.second ≡ rules_of second))
farms-passed {first} {second} {m} {rules} j = (sym j.verdict-is, j.rules-are rules refl)

-- the marks of a map that is passed
pub passed-marked : (rows columns : ℕ) (s t : Settings) (marks count factors : List ℕ) →
    verdict (map_tests (map_of rows columns (two s t marks) count factors)) ≡ passed →
    Marked (rows * columns) marks
passed-marked rows columns s t marks count factors e =
    let m = map_of rows columns (two s t marks) count factors in
    marks-few (rows * columns) s t marks (lengths-passed (rows * columns) (length marks ∷ length count ∷ length factors ∷ []) (by-long m e).0).0
    (by-long m e).1
