-- The tests of the formulas' numbers, and what they decide between two lists of tests. Assumes nothing.
use mathlib.Core.Path.{◌≡◌, refl, sym, ap, ◌∙◌}
use mathlib.Core.List.{List, [], ◌∷◌, ◌++◌, append_assoc}
use mathlib.Core.Bool.{Bool, true, false, cond}
use Prim.Native.Nat.{ℕ, ◌≤◌, ◌<◌}
use native.Mathlib.Omega.{arith}
use native.Mathlib.Decide.{dec_lt}
use lib.Dec.{eqb}
use Rattle.std.specs.Prelude.{None, Some}
use borrow.Author.Tests.{le-leb, lt-leb}
use Rattle.laws.specs.Tests.{Test, passed, failed, verdict}
use Rattle.laws.proofs.Verdicts.{test-yes, test-no, verdict-none, verdict-next, verdict-stops, verdict-before, verdict-after, OfNumber}
use Rattle.fullsize.specs.Crossing.{formula_test, one_formula, two_formulas}
use Rattle.fullsize.specs.InnerMapping.{before_marks, formula_place}

pub formula-passes : (place n : ℕ) → n ≤ 1 → formula_test place n ≡ passed
unfolding formula_test
formula-passes place n h = test-yes 4 place (le-leb n 1 h)

pub formula-fails : (place n : ℕ) → 1 < n → formula_test place n ≡ failed 4 place
unfolding formula_test
formula-fails place n h = test-no 4 place (lt-leb n 1 h)

-- ---- the formula of one farm

pub one_passes : (n : ℕ) → n ≤ 1 → verdict (one_formula n) ≡ passed
one_passes n h = verdict-next [] (formula-passes 7 n h) ∙ verdict-none

pub one-fails : (n : ℕ) → 1 < n → verdict (one_formula n) ≡ failed 4 7
one-fails n h = verdict-stops [] (formula-fails 7 n h)

-- ---- the formulas of two farms, by the place of the first number that is none

module _ (n m : ℕ) where
  pub place-first : 1 < n → formula_place n m ≡ Some 7
  unfolding formula_place
  place-first h = rw (lt-leb n 1 h)

  pub place-second : n ≤ 1 → 1 < m → formula_place n m ≡ Some 8
  unfolding formula_place
  place-second h l = rw (le-leb n 1 h, lt-leb m 1 l)

  pub place_none : n ≤ 1 → m ≤ 1 → formula_place n m ≡ None
  unfolding formula_place
  place_none h l = rw (le-leb n 1 h, le-leb m 1 l)

  pub two-passes : formula_place n m ≡ None → verdict (two_formulas n m) ≡ passed
  two-passes e =
      elim (dec_lt 1 n) [
        | yes h ↦ absurd (let q : Some 7 ≡ None = sym (place-first h) ∙ e in cc)
        | no f ↦
            elim (dec_lt 1 m) [
              | yes l ↦ absurd (let q : Some 8 ≡ None = sym (place-second (omega arith) l) ∙ e in cc)
              | no g ↦ verdict-next (formula_test 8 m ∷ []) (formula-passes 7 n (omega arith)) ∙ verdict-next [] (formula-passes 8 m (omega arith))
                  ∙ verdict-none
            ]
      ]

  pub two-fails : {place : ℕ} → formula_place n m ≡ Some place → verdict (two_formulas n m) ≡ failed 4 place
  two-fails {place} e =
      elim (dec_lt 1 n) [
        | yes h ↦ (let q : Some 7 ≡ Some place = sym (place-first h) ∙ e in
            let at : 7 ≡ place = cc in verdict-stops (formula_test 8 m ∷ []) (formula-fails 7 n h) ∙ ap (failed 4) at)
        | no f ↦
            elim (dec_lt 1 m) [
              | yes l ↦ (let q : Some 8 ≡ Some place = sym (place-second (omega arith) l) ∙ e in
                  let at : 8 ≡ place = cc in verdict-next (formula_test 8 m ∷ []) (formula-passes 7 n (omega arith)) ∙ verdict-stops [] (formula-fails 8 m l)
                  ∙ ap (failed 4) at)
              | no g ↦ absurd (let q : None ≡ Some place = sym (place_none (omega arith) (omega arith)) ∙ e in cc)
            ]
      ]

-- ---- tests of formulas between two lists of tests

-- two lists of tests after a third decide alike, if they do by themselves
pub verdict-same : (l m n : List Test) → verdict m ≡ verdict n → verdict (l ++ m) ≡ verdict (l ++ n)
unfolding verdict
verdict-same [] m n e = e
verdict-same (passed ∷ l) m n e = verdict-same l m n e
verdict-same (failed number place ∷ l) m n e = refl

-- a refusal with 19, and one with another number
abbrev pub OfMarks : ℕ → Type 0
OfMarks number = eqb number 19 ≡ true

abbrev pub NotOfMarks : ℕ → Type 0
NotOfMarks number = eqb number 19 ≡ false

pub no-tests : OfNumber NotOfMarks (verdict [])
unfolding verdict
no-tests = tt

module _ (early formulas marks rest : List Test) where
  -- they are passed: the other tests decide
  pub formulas-pass : verdict formulas ≡ passed → verdict ((early ++ marks) ++ rest) ≡ verdict (early ++ (formulas ++ (marks ++ rest)))
  formulas-pass h = ap verdict (append_assoc early marks rest) ∙ verdict-same early (marks ++ rest) (formulas ++ (marks ++ rest))
      (sym (verdict-after formulas (marks ++ rest) h))

  -- one is not: the early tests decide, or it does
  pub formulas-fail : {place : ℕ} → verdict formulas ≡ failed 4 place → OfNumber NotOfMarks (verdict early) → OfNumber OfMarks (verdict marks) →
      before_marks place (verdict (early ++ marks)) ≡ verdict (early ++ (formulas ++ (marks ++ rest)))
  formulas-fail {place} h a b = go (verdict early) refl a
    where
      of-marks : (t : Test) → OfNumber OfMarks t → before_marks place t ≡ failed 4 place
      of-marks passed q = refl
      of-marks (failed number at) q = ap (λ (c : Bool). cond c (failed 4 place) (failed number at)) q

      go : (t : Test) → verdict early ≡ t → OfNumber NotOfMarks t → before_marks place (verdict (early ++ marks)) ≡ verdict
          (early ++ (formulas ++ (marks ++ rest)))
      go passed e q =
          ap (before_marks place) (verdict-after early marks e) ∙ of-marks (verdict marks) b
          ∙ sym (verdict-after early (formulas ++ (marks ++ rest)) e ∙ verdict-before formulas (marks ++ rest) h)
      go (failed number at) e q =
          ap (before_marks place) (verdict-before early marks e) ∙ ap (λ (c : Bool). cond c (failed 4 place) (failed number at)) q
          ∙ sym (verdict-before early (formulas ++ (marks ++ rest)) e)
