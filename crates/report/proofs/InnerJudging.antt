-- Laws of the tests of a map: what each decides where those before it are passed. Assumes nothing.
use mathlib.Core.Path.{◌≡◌, refl, sym, ap, ◌∙◌}
use mathlib.Core.Bool.{true, false}
use mathlib.Core.List.{List, [], ◌∷◌, ◌++◌}
use Prim.Native.Nat.{ℕ, ◌*◌}
use lib.ListN.{length}
use Rattle.std.specs.Prelude.{Result, Ok, Err}
use Rattle.laws.specs.Tests.{Test, passed, failed, verdict}
use Rattle.laws.proofs.Verdicts.{passed-failed, test-passed, verdict-none, verdict-next, verdict-stops, verdict-passed, verdict-before, verdict-after}
use Rattle.text.specs.Faults.{number_of}
use Rattle.text.specs.Ranges.{size_accepted, all_long, length_test}
use Rattle.text.proofs.Accepted.{size-passes, rows-fail, columns-fail, lengths-pass, lengths-fail, lengths-passed}
use Rattle.text.specs.declared.faults.Fault.TheVariants as fault
use Rattle.text.specs.declared.Refusal.{Refusal}
use Rattle.text.specs.declared.faults.Fault.{Fault}
use Rattle.text.proofs.FaultNumbers.{back-fault}
use Rattle.settings.specs.declared.Settings.{Settings}
use Rattle.settings.specs.declared.Rules.{Rules}
use Rattle.settings.specs.declared.Setting.{Setting}
use Rattle.settings.specs.Settings.{rules_of, judged_of, place_of, settings_test}
use Rattle.settings.proofs.Verdicts.{judged-passed, judged-failed}
use Rattle.factor.specs.Farms.{two, mark_places, second_places, mark_test, farm_tests}
use Rattle.factor.specs.Answers.{found, JudgesRest}
use Rattle.factor.specs.declared.tests.FarmRules.{FarmRules}
use Rattle.report.specs.Maps.{Map, map_of, cells_of}
use Rattle.report.specs.Answers.{early_tests, map_tests, judgement_for, judgement_of, JudgesFarms}
use Rattle.report.specs.InnerTests.{shape_tests, settings_found}

abbrev lengths_of : Map → List ℕ
lengths_of m = mark_places m.farms ++ (length m.count ∷ length m.factors ∷ [])

module _ (m : Map) where
  tests-are : map_tests m ≡ shape_tests m.rows m.columns (lengths_of m) ++ farm_tests (cells_of m) m.farms
  unfolding map_tests early_tests
  tests-are = refl

  pub shape-fails : {n p : ℕ} → failed n p ≡ verdict (shape_tests m.rows m.columns (mark_places m.farms ++ (length m.count ∷ length m.factors ∷ []))) →
      failed n p ≡ verdict (map_tests m)
  shape-fails e = sym (ap verdict tests-are ∙ verdict-before (shape_tests m.rows m.columns (lengths_of m)) (farm_tests (cells_of m) m.farms) (sym e))

  pub shape-passes : passed ≡ verdict (shape_tests m.rows m.columns (mark_places m.farms ++ (length m.count ∷ length m.factors ∷ []))) →
      verdict (map_tests m) ≡ verdict (farm_tests (cells_of m) m.farms)
  shape-passes e = ap verdict tests-are ∙ verdict-after (shape_tests m.rows m.columns (lengths_of m)) (farm_tests (cells_of m) m.farms) (sym e)

-- ---- the shape

module _ (rows columns : ℕ) (lengths : List ℕ) where
  pub rows-refused : size_accepted rows ≡ false → failed 1 0 ≡ verdict (shape_tests rows columns lengths)
  rows-refused e = sym (verdict-stops _ (rows-fail rows columns e))

  pub columns-refused : size_accepted columns ≡ false → failed 1 0 ≡ verdict (shape_tests rows columns lengths)
  columns-refused e = sym (verdict-stops _ (columns-fail rows columns e))

  module _ (r : size_accepted rows ≡ true) (c : size_accepted columns ≡ true) where
    pub long-refused : all_long (rows * columns) lengths ≡ false → failed 2 0 ≡ verdict (shape_tests rows columns lengths)
    long-refused e = sym (verdict-next _ (size-passes rows columns r c) ∙ verdict-stops [] (lengths-fail (rows * columns) lengths e))

    pub shape-sound : all_long (rows * columns) lengths ≡ true → passed ≡ verdict (shape_tests rows columns lengths)
    shape-sound e = sym (verdict-next _ (size-passes rows columns r c) ∙ verdict-next [] (lengths-pass (rows * columns) lengths e) ∙ verdict-none)

  -- the lists are long if they are passed
  pub shape-long : passed ≡ verdict (shape_tests rows columns lengths) → all_long (rows * columns) lengths ≡ true
  unfolding length_test
  shape-long e = test-passed (all_long (rows * columns) lengths) 2 0 (verdict-passed _ _ (verdict-passed _ _ (sym e)).1).0

-- lengths that are those of three lists, one by one
pub same-lengths : (rows columns : ℕ) (marks count factors : List ℕ) {t : Test} {a b d : ℕ} → t ≡ verdict (shape_tests rows columns (a ∷ b ∷ d ∷ [])) →
    a ≡ length marks → b ≡ length count → d ≡ length factors → t ≡ verdict (shape_tests rows columns (length marks ∷ length count ∷ length factors ∷ []))
same-lengths rows columns marks count factors e p q r = rw (p, q, r) at e

-- ---- one farm

module _ (s : Settings) (m : Map) where
  pub one-refused : {f : Refusal} → failed (number_of f.fault) f.place ≡ verdict (map_tests m) → Err f ≡ judgement_of s m
  unfolding judgement_of judgement_for
  one-refused {f} e =
      sym (ap (λ (k : Fault). Err (record { fault = k; place = f.place })) (back-fault f.fault)) ∙ ap (judgement_for (rules_of s)) e

  pub one-judged : {r : Result Rules Refusal} → verdict (map_tests m) ≡ verdict (settings_test s ∷ []) → r ≡ settings_found (judged_of s) → r ≡ judgement_of s m
  unfolding judgement_of judgement_for
  one-judged {r} left e = e ∙ go (judged_of s) refl
    where
      go : (j : Result Rules Setting) → judged_of s ≡ j → settings_found j ≡ judgement_of s m
      go (Ok rules) q =
          let w = judged-passed s q in
          ap Ok w.1 ∙ sym (ap (judgement_for (rules_of s)) (left ∙ verdict-next [] w.0 ∙ verdict-none))
      go (Err bad) q = one-refused (sym (left ∙ verdict-stops [] (judged-failed s q)))

-- what is found of one farm's settings: their rules, or the first that is bad
pub found-rules : (s : Settings) {rules : Rules} → Ok rules ≡ settings_found (judged_of s) → judged_of s ≡ Ok rules
found-rules s {rules} e = go (judged_of s) e
  where
    go : (j : Result Rules Setting) → Ok rules ≡ settings_found j → j ≡ Ok rules
    go (Ok given) p = cc
    go (Err bad) p = absurd (cc)

pub found-bad : (s : Settings) {f : Refusal} → Err f ≡ settings_found (judged_of s) →
    (bad : Setting) × (judged_of s ≡ Err bad) × (failed (number_of f.fault) f.place ≡ failed 4 (place_of bad))
found-bad s {f} e = go (judged_of s) e
  where
    go : (j : Result Rules Setting) → Err f ≡ settings_found j → (bad : Setting) × (j ≡ Err bad) × (failed (number_of f.fault) f.place ≡ failed 4 (place_of bad))
    go (Ok given) p = absurd (cc)
    go (Err bad) p =
        let same : f ≡ record { fault = fault.Setting; place = place_of bad } = cc in
        (bad, refl, ap (λ (g : Refusal). failed (number_of g.fault) g.place) same)

-- ---- two farms

module _ (rows columns : ℕ) (first second : Settings) (marks count factors : List ℕ) where
  pub farms-refused : {r : Result FarmRules Refusal} {n p : ℕ} → found r ≡ failed n p → verdict
      (map_tests (map_of rows columns (two first second marks) count factors)) ≡ failed n p →
      JudgesFarms first second (map_of rows columns (two first second marks) count factors) r
  farms-refused e f = record { verdict-is = e ∙ sym f; rules-are = (λ rules q. absurd (passed-failed (sym (ap found q) ∙ e))) }

  module _ (left : verdict (map_tests (map_of rows columns (two first second marks) count factors)) ≡ verdict
      (farm_tests (rows * columns) (two first second marks))) where
    pub farms-settings : {r : Result FarmRules Refusal} {bad : Setting} → found r ≡ failed 4 (place_of bad) → judged_of first ≡ Err bad →
        JudgesFarms first second (map_of rows columns (two first second marks) count factors) r
    farms-settings f e = farms-refused f (left ∙ verdict-stops _ (judged-failed first e))

    pub farms-rest : {rules : Rules} {r : Result FarmRules Refusal} → all_long (rows * columns) (length marks ∷ length count ∷ length factors ∷ []) ≡ true →
        judged_of first ≡ Ok rules →
        JudgesRest rules second marks r → JudgesFarms first second (map_of rows columns (two first second marks) count factors) r
    farms-rest l e r =
        let w = judged-passed first e in
        let places = length marks ∷ length count ∷ length factors ∷ [] in
        let n = (lengths-passed (rows * columns) places (lengths-pass (rows * columns) places l)).0 in
        record {
          verdict-is = r.verdict-is ∙ ap (λ (m : ℕ). verdict (second_places (settings_test second) ∷ mark_test m marks ∷ [])) n
              ∙ sym (left ∙ verdict-next _ w.0);
          rules-are = (λ given q. let s = r.rules-are given q in (s.0 ∙ w.1, s.1));
        }
