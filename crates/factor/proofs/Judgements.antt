-- What is found by the first tests: what each of them decides in its order, and then, from what the tests of sizes, places and sides left, what is
-- found of the settings and the first bad mark. Assumes nothing.
use mathlib.Core.Path.{◌≡◌, sym, ap, ◌∙◌}
use mathlib.Core.List.{List, [], ◌∷◌, ◌++◌}
use mathlib.Core.Bool.{true, false, not}
use Prim.Native.Nat.{ℕ, ◌+◌, ◌*◌, ◌≤◌, ◌<◌}
use native.Mathlib.Omega.{arith}
use lib.ListN.{length}
use lib.IntN.{ℤ}
use borrow.Author.Tests.{lt-ltb, le-ltb}
use Rattle.std.proofs.Common.{Result, Ok, Err}
use Rattle.laws.specs.Tests.{Test, failed, verdict}
use Rattle.laws.proofs.Verdicts.{passed-failed, verdict-none, verdict-next, verdict-stops, test-yes, test-no}
use Rattle.text.specs.Ranges.{size_accepted, side_accepted, all_long, length_test, side_test}
use Rattle.text.proofs.Accepted.{size-passes, rows-fail, columns-fail, lengths-pass, lengths-fail, lengths-passed, side-passes, side-fails}
use Rattle.settings.specs.declared.Settings.{Settings}
use Rattle.settings.specs.declared.Rules.{Rules}
use Rattle.settings.specs.declared.Setting.{Setting as Bad}
use Rattle.settings.specs.Settings.{rules_of, judged_of, place_of, settings_test}
use Rattle.settings.proofs.Verdicts.{judged-passed, judged-failed}
use Rattle.text.specs.declared.Refusal.{Refusal}
use Rattle.factor.specs.Farms.{Farms, one, two, mark_places, second_places, first_mark, mark_test, farm_tests}
use Rattle.factor.specs.Answers.{Grids, places_of, early_tests, first_tests, found, Judges, JudgesFarms, JudgesRest}
use Rattle.factor.specs.declared.tests.FarmRules.{FarmRules}

-- ---- the cases in their order, as the code tests them

module _ (rows cols side : ℕ) (farms : Farms) (elevation : List ℤ) (g : Grids) where
  abbrev long : Test
  long = length_test (rows * cols) (mark_places farms ++ places_of elevation g)

  abbrev sided : Test
  sided = side_test side

  abbrev chosen : List Test
  chosen = farm_tests (rows * cols) farms

  -- what the first tests decide
  abbrev decided : Test
  decided = verdict (first_tests rows cols side farms elevation g)

  pub rows-refused : size_accepted rows ≡ false → verdict (first_tests rows cols side farms elevation g) ≡ failed 1 0
  unfolding first_tests early_tests
  rows-refused e = verdict-stops (long ∷ sided ∷ chosen) (rows-fail rows cols e)

  pub columns-refused : size_accepted cols ≡ false → verdict (first_tests rows cols side farms elevation g) ≡ failed 1 0
  unfolding first_tests early_tests
  columns-refused e = verdict-stops (long ∷ sided ∷ chosen) (columns-fail rows cols e)

  module _ (r : size_accepted rows ≡ true) (c : size_accepted cols ≡ true) where
    size-left : decided ≡ verdict (long ∷ sided ∷ chosen)
    unfolding first_tests early_tests
    size-left = verdict-next (long ∷ sided ∷ chosen) (size-passes rows cols r c)

    pub long-refused : all_long (rows * cols) (mark_places farms ++ places_of elevation g) ≡ false →
        verdict (first_tests rows cols side farms elevation g) ≡ failed 2 0
    long-refused e = size-left ∙ verdict-stops (sided ∷ chosen) (lengths-fail (rows * cols) (mark_places farms ++ places_of elevation g) e)

    module _ (l : all_long (rows * cols) (mark_places farms ++ places_of elevation g) ≡ true) where
      long-left : decided ≡ verdict (sided ∷ chosen)
      long-left = size-left ∙ verdict-next (sided ∷ chosen) (lengths-pass (rows * cols) (mark_places farms ++ places_of elevation g) l)

      pub side-refused : side_accepted side ≡ false → verdict (first_tests rows cols side farms elevation g) ≡ failed 3 0
      side-refused e = long-left ∙ verdict-stops chosen (side-fails side e)

      pub farms-left : side_accepted side ≡ true → verdict (first_tests rows cols side farms elevation g) ≡ verdict (farm_tests (rows * cols) farms)
      farms-left s = long-left ∙ verdict-next chosen (side-passes side s)

-- ---- one farm

module _ (rows cols side : ℕ) (settings : Settings) (elevation : List ℤ) (g : Grids) where
  pub judges-refused : {r : Result Rules Refusal} {number place : ℕ} → found r ≡ failed number place →
      verdict (first_tests rows cols side (one settings) elevation g) ≡ failed number place →
      Judges rows cols side settings elevation g r
  judges-refused e f = record { verdict-is = e ∙ sym f; rules-are = (λ rules q. absurd (passed-failed (sym (ap found q) ∙ e))) }

  module _ (left : verdict (first_tests rows cols side (one settings) elevation g) ≡ verdict (farm_tests (rows * cols) (one settings))) where
    pub judges-settings : {j : Result Rules Refusal} {bad : Bad} → found j ≡ failed 4 (place_of bad) → judged_of settings ≡ Err bad →
        Judges rows cols side settings elevation g j
    judges-settings f e = judges-refused f (left ∙ verdict-stops [] (judged-failed settings e))

    pub judges-sound : {rules : Rules} → judged_of settings ≡ Ok rules → Judges rows cols side settings elevation g (Ok rules)
    judges-sound {rules} e =
        let w = judged-passed settings e in
        record { verdict-is = sym (left ∙ verdict-next [] w.0 ∙ verdict-none); rules-are = same w.1 }
      where
        same : rules ≡ rules_of settings → (given : Rules) → ◌≡◌ {A = Result Rules Refusal} (Ok rules) (Ok given) → given ≡ rules_of settings
        same m given q = cc

-- ---- the last tests of two farms

module _ (first : Rules) (second : Settings) (marks : List ℕ) where
  abbrev marked : Test
  marked = mark_test (length marks) marks

  abbrev rest : Test
  rest = verdict (second_places (settings_test second) ∷ marked ∷ [])

  rest-refused : {r : Result FarmRules Refusal} {number place : ℕ} → found r ≡ failed number place → rest ≡ failed number place → JudgesRest first second marks r
  rest-refused e f = record { verdict-is = e ∙ sym f; rules-are = (λ rules q. absurd (passed-failed (sym (ap found q) ∙ e))) }

  pub rest-settings : {r : Result FarmRules Refusal} {bad : Bad} {at : ℕ} → found r ≡ failed 4 at → judged_of second ≡ Err bad → at ≡ 3 + place_of bad →
      JudgesRest first second marks r
  rest-settings f e p = rest-refused (f ∙ ap (failed 4) p) (verdict-stops (marked ∷ []) (ap second_places (judged-failed second e)))

  module _ {rules : Rules} (e : judged_of second ≡ Ok rules) where
    rest-left : rest ≡ verdict (marked ∷ [])
    rest-left = verdict-next (marked ∷ []) (ap second_places (judged-passed second e).0)

    pub rest-marks : {r : Result FarmRules Refusal} {x : ℕ} → x ≡ first_mark (length marks) marks → x < length marks → found r ≡ failed 19 x →
        JudgesRest first second marks r
    unfolding mark_test
    rest-marks {r} {x} q h f =
        rest-refused f
        (rest-left
        ∙ verdict-stops [] (rw (sym q) (test-no 19 x (ap not (lt-ltb x (length marks) h)))))

    pub rest-sound : {x : ℕ} → x ≡ first_mark (length marks) marks → length marks ≤ x →
        JudgesRest first second marks (Ok (record { first = first; second = rules }))
    unfolding mark_test
    rest-sound {x} q h =
        let passes = test-yes 19 (first_mark (length marks) marks) (ap not (le-ltb (first_mark (length marks) marks) (length marks) (omega arith))) in
        record { verdict-is = sym (rest-left ∙ verdict-next [] passes ∙ verdict-none); rules-are = same (judged-passed second e).1 }
      where
        same : rules ≡ rules_of second → (given : FarmRules) → ◌≡◌ {A = Result FarmRules Refusal} (Ok (record { first = first; second = rules })) (Ok given) →
            (given.first ≡ first) × (given.second ≡ rules_of second)
        same m given q = let z : record { first = first; second = rules } ≡ given = cc in (sym (ap (λ (f : FarmRules). f.first) z), sym (ap (λ (f : FarmRules). f.second) z) ∙ m)

-- ---- all first tests of two farms

module _ (rows cols side : ℕ) (first second : Settings) (marks : List ℕ) (elevation : List ℤ) (g : Grids) where
  pub farms-refused : {r : Result FarmRules Refusal} {number place : ℕ} → found r ≡ failed number place →
      verdict (first_tests rows cols side (two first second marks) elevation g) ≡ failed number place →
      JudgesFarms rows cols side first second marks elevation g r
  farms-refused e f = record { verdict-is = e ∙ sym f; rules-are = (λ rules q. absurd (passed-failed (sym (ap found q) ∙ e))) }

  module _ (left : verdict (first_tests rows cols side (two first second marks) elevation g) ≡ verdict
      (farm_tests (rows * cols) (two first second marks))) where
    pub farms-settings : {j : Result FarmRules Refusal} {bad : Bad} → found j ≡ failed 4 (place_of bad) → judged_of first ≡ Err bad →
        JudgesFarms rows cols side first second marks elevation g j
    farms-settings f e = farms-refused f (left ∙ verdict-stops _ (judged-failed first e))

    pub farms-rest : {rules : Rules} {j : Result FarmRules Refusal} → all_long (rows * cols) (length marks ∷ places_of elevation g) ≡ true →
        judged_of first ≡ Ok rules → JudgesRest rules second marks j → JudgesFarms rows cols side first second marks elevation g j
    farms-rest l e r =
        let w = judged-passed first e in
        let n = (lengths-passed (rows * cols) (length marks ∷ places_of elevation g) (lengths-pass (rows * cols) (length marks ∷ places_of elevation g) l)).0 in
        record {
          verdict-is = r.verdict-is ∙ ap (λ (m : ℕ). verdict (second_places (settings_test second) ∷ mark_test m marks ∷ [])) n
              ∙ sym (left ∙ verdict-next _ w.0);
          rules-are = (λ given q. let s = r.rules-are given q in (s.0 ∙ w.1, s.1));
        }
