-- What a map call promises, with the formulas' numbers judged between 4 and 19. Assumes nothing.
use mathlib.Core.Path.{◌≡◌, refl, sym, ap, ◌∙◌}
use mathlib.Core.Bool.{Bool, true, false, cond}
use mathlib.Core.List.{List, ◌∷◌, ◌++◌}
use Prim.Native.Nat.{ℕ, ◌*◌}
use lib.IntN.{ℤ}
use lib.Dec.{eqb}
use Rattle.laws.specs.Tests.{Test, passed, failed, verdict}
use Rattle.text.specs.declared.Refusal.{Refusal}
use Rattle.text.specs.Ranges.{height_test}
use Rattle.terrain.specs.Filled.{filled_levels}
use Rattle.terrain.specs.Answers.{source_tests, directions_by}
use Rattle.terrain.specs.declared.Source.{Source}
use Rattle.settings.specs.declared.Settings.{Settings}
use Rattle.factor.specs.Farms.{Farms, two, mark_tests}
use Rattle.factor.specs.declared.tests.FarmRules.{FarmRules}
use Rattle.factor.specs.Answers.{Grids, tests, judged, answer_of, grids_of, answer, after, found, early_tests, first_tests, JudgesFarms}
use Rattle.std.specs.Prelude.{Some, Result, Ok, Err}
use Rattle.std.specs.Result.{result_err}
use Rattle.text.specs.Faults.{number_of, fault_of}
use Rattle.text.specs.declared.faults.Fault.{Fault}
use Rattle.text.specs.declared.faults.Fault.TheVariants.{Setting}
use Rattle.text.proofs.FaultNumbers.{back-fault}
use Rattle.terrain.specs.declared.Summary.{Summary}
use Rattle.factor.proofs.Judging.{first-kept, early-number, marks-number}
use Rattle.fullsize.specs.Crossing.{two_formulas}
use Rattle.fullsize.specs.Mapping.{judged_by, answer_by, after_by}
use Rattle.fullsize.specs.InnerMapping.{before_marks, formula_place, refusal_before}
use Rattle.fullsize.proofs.Formulas.{NotOfMarks, OfMarks, formulas-pass, formulas-fail, two-fails}

module _ (rows cols side : ℕ) (farms : Farms) (formulas : List Test) (source : Source) (elevation : List ℤ) (g : Grids) where
  abbrev early : List Test
  early = early_tests rows cols side farms elevation g

  abbrev marks : List Test
  marks = mark_tests (rows * cols) farms

  abbrev rest : List Test
  rest = height_test (rows * cols) elevation ∷ source_tests source rows cols (filled_levels rows cols elevation) g.direction

  abbrev dir : List ℕ
  dir = directions_by source rows cols elevation g.direction

  first-are : first_tests rows cols side farms elevation g ≡ early ++ marks
  unfolding first_tests
  first-are = refl

  -- ---- every number is a formula: the tests decide as the map call's do

  module _ (h : verdict formulas ≡ passed) where
    judged-is : judged rows cols side farms source elevation g ≡ judged_by rows cols side farms formulas source elevation g
    unfolding judged tests judged_by
    judged-is = ap (λ (l : List Test). verdict (l ++ rest)) first-are ∙ formulas-pass early formulas marks rest h

    pub answer-is : {a : Result Summary Refusal} → a ≡ answer rows cols side farms source elevation g → a ≡ answer_by rows cols side farms formulas source elevation g
    unfolding answer answer_by
    answer-is e = e ∙ ap (answer_of rows cols elevation dir) judged-is

    pub after_is : {left : Grids} → left ≡ after rows cols side farms source elevation g → left ≡ after_by rows cols side farms formulas source elevation g
    unfolding after after_by
    after_is e = e ∙ ap (grids_of rows cols side farms elevation dir g) judged-is

  -- ---- one is not: a refusal, and the grids stay as they were

  module _ {place : ℕ} (h : verdict formulas ≡ failed 4 place) {t : Test} (e : t ≡ verdict (first_tests rows cols side farms elevation g)) where
    judged-none : before_marks place t ≡ judged_by rows cols side farms formulas source elevation g
    unfolding judged_by
    judged-none =
        ap (before_marks place) (e ∙ ap verdict first-are)
        ∙ formulas-fail early formulas marks rest h (early-number rows cols side farms elevation g NotOfMarks refl refl refl refl)
        (marks-number OfMarks (rows * cols) farms refl)

    pub none_answers : answer_of rows cols elevation (directions_by source rows cols elevation g.direction)
        (before_marks place t) ≡ answer_by rows cols side farms formulas source elevation g
    unfolding answer_by
    none_answers = ap (answer_of rows cols elevation dir) judged-none

    pub none-leaves : g ≡ after_by rows cols side farms formulas source elevation g
    unfolding after_by grids_of
    none-leaves = sym (kept t e) ∙ ap (grids_of rows cols side farms elevation dir g) judged-none
      where
        cases : (b : Bool) (number at : ℕ) → grids_of rows cols side farms elevation dir g (failed number at) ≡ g →
            grids_of rows cols side farms elevation dir g (cond b (failed 4 place) (failed number at)) ≡ g
        cases true number at q = refl
        cases false number at q = q

        kept : (u : Test) → u ≡ verdict (first_tests rows cols side farms elevation g) → grids_of rows cols side farms elevation dir g (before_marks place u) ≡ g
        kept passed q = refl
        kept (failed number at) q = cases (eqb number 19) number at (first-kept rows cols side farms elevation g (sym q))

-- ---- without a formula: a refusal that was found before it, or its own

module _ (rows cols : ℕ) (elevation : List ℤ) (dir : List ℕ) (place : ℕ) where
  none-told : {A : Type 0} (k : Result A Refusal) → Err (refusal_before place (result_err k)) ≡ answer_of rows cols elevation dir (before_marks place (found k))
  unfolding answer_of fault_of
  none-told (Ok a) = refl
  none-told (Err f) = go (eqb (number_of f.fault) 19)
    where
      go : (b : Bool) →
          Err (cond b (record { fault = Setting; place = place }) f) ≡ answer_of rows cols elevation dir (cond b (failed 4 place) (failed (number_of f.fault) f.place))
      go true = refl
      go false = ap (λ (k : Fault). Err (record { fault = k; place = f.place })) (sym (back-fault f.fault))

module _ (rows cols side : ℕ) (farms : Farms) (formulas : List Test) (source : Source) (elevation : List ℤ) (g : Grids) {place : ℕ}
    (h : verdict formulas ≡ failed 4 place) {A : Type 0} (j : Result A Refusal) (e : found j ≡ verdict (first_tests rows cols side farms elevation g)) where
  pub without-answers : {f : Refusal} → f ≡ refusal_before place (result_err j) → Err f ≡ answer_by rows cols side farms formulas source elevation g
  without-answers p =
      ap Err p ∙ none-told rows cols elevation (directions_by source rows cols elevation g.direction) place j
      ∙ none_answers rows cols side farms formulas source elevation g h e

  pub without-leaves : g ≡ after_by rows cols side farms formulas source elevation g
  without-leaves = none-leaves rows cols side farms formulas source elevation g h e

-- ---- two farms, one of them without a formula

module _ (rows cols side : ℕ) (first second : Settings) (marks : List ℕ) (n m : ℕ) (source : Source) (elevation : List ℤ) (g : Grids) {place : ℕ}
    (h : formula_place n m ≡ Some place) {j : Result FarmRules Refusal} (judges : JudgesFarms rows cols side first second marks elevation g j) where
  pub two-answers : {f : Refusal} → f ≡ refusal_before place (result_err j) → Err f ≡ answer_by rows cols side (two first second marks)
      (two_formulas n m) source elevation g
  two-answers e =
      without-answers rows cols side (two first second marks) (two_formulas n m) source elevation g (two-fails n m h) j judges.verdict-is e

  pub two-leaves : g ≡ after_by rows cols side (two first second marks) (two_formulas n m) source elevation g
  two-leaves = without-leaves rows cols side (two first second marks) (two_formulas n m) source elevation g (two-fails n m h) j judges.verdict-is
