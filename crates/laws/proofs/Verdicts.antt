-- Laws of the tests of a call: what one test gives, and what a list of them does. Assumes nothing.
use mathlib.Core.Path.{◌≡◌, refl, sym, ap, ◌∙◌}
use mathlib.Core.List.{List, [], ◌∷◌, ◌++◌}
use mathlib.Core.Bool.{Bool, true, false}
use Prim.Native.Nat.{ℕ, ◌≤◌}
use native.Mathlib.Omega.{arith}
use Rattle.laws.specs.Tests.{Test, passed, failed, test, verdict}

-- ---- one test

pub passed-failed : {number place : ℕ} → passed ≡ failed number place → ⊥
passed-failed e = let z : ◌≡◌ {A = ℕ} 0 1 = cc in omega arith

pub test-yes : {ok : Bool} (number place : ℕ) → ok ≡ true → test ok number place ≡ passed
test-yes number place e = ap (λ (b : Bool). test b number place) e

pub test-no : {ok : Bool} (number place : ℕ) → ok ≡ false → test ok number place ≡ failed number place
test-no number place e = ap (λ (b : Bool). test b number place) e

pub test-passed : (ok : Bool) (number place : ℕ) → test ok number place ≡ passed → ok ≡ true
test-passed true number place e = refl
test-passed false number place e = absurd (passed-failed (sym e))

-- ---- a list of tests

pub verdict-none : verdict [] ≡ passed
unfolding verdict
verdict-none = refl

-- a test that is passed leaves it to the rest
pub verdict-next : {t : Test} (l : List Test) → t ≡ passed → verdict (t ∷ l) ≡ verdict l
unfolding verdict
verdict-next l e = ap (λ (u : Test). verdict (u ∷ l)) e

-- one that fails decides
pub verdict-stops : {t : Test} {number place : ℕ} (l : List Test) → t ≡ failed number place → verdict (t ∷ l) ≡ failed number place
unfolding verdict
verdict-stops l e = ap (λ (u : Test). verdict (u ∷ l)) e

-- if all are passed, the first is and the rest are
pub verdict-passed : (t : Test) (l : List Test) → verdict (t ∷ l) ≡ passed → (t ≡ passed) × (verdict l ≡ passed)
unfolding verdict
verdict-passed passed l e = (refl, e)
verdict-passed (failed number place) l e = absurd (passed-failed (sym e))

-- if all of two lists are passed, all of each are
pub verdict-parts : (l m : List Test) → verdict (l ++ m) ≡ passed → (verdict l ≡ passed) × (verdict m ≡ passed)
verdict-parts [] m e = (verdict-none, e)
verdict-parts (t ∷ l) m e =
    let w = verdict-passed t (l ++ m) e in
    let p = verdict-parts l m w.1 in
    (verdict-next l w.0 ∙ p.0, p.1)

-- one list of tests after another: the first list decides if it fails
pub verdict-before : (l m : List Test) {number place : ℕ} → verdict l ≡ failed number place → verdict (l ++ m) ≡ failed number place
unfolding verdict
verdict-before [] m e = absurd (passed-failed e)
verdict-before (passed ∷ l) m e = verdict-before l m e
verdict-before (failed number place ∷ l) m e = e

-- and leaves it to the second if it is passed
pub verdict-after : (l m : List Test) → verdict l ≡ passed → verdict (l ++ m) ≡ verdict m
unfolding verdict
verdict-after [] m e = refl
verdict-after (passed ∷ l) m e = verdict-after l m e
verdict-after (failed number place ∷ l) m e = absurd (passed-failed (sym e))

-- ---- the number of a refusal

-- it is not 0
abbrev pub Numbered : Test → Type 0
Numbered passed = Unit
Numbered (failed number place) = 1 ≤ number

pub test-numbered : (ok : Bool) (number place : ℕ) → 1 ≤ number → Numbered (test ok number place)
test-numbered true number place h = tt
test-numbered false number place h = h

pub verdict-numbered : (t : Test) (l : List Test) → Numbered t → Numbered (verdict l) → Numbered (verdict (t ∷ l))
unfolding verdict
verdict-numbered passed l h i = i
verdict-numbered (failed number place) l h i = h

-- what holds of the number of a refusal
abbrev pub OfNumber : (ℕ → Type 0) → Test → Type 0
OfNumber P passed = Unit
OfNumber P (failed number place) = P number

pub test-number : (P : ℕ → Type 0) (ok : Bool) (number place : ℕ) → P number → OfNumber P (test ok number place)
test-number P true number place h = tt
test-number P false number place h = h

pub verdict-number : (P : ℕ → Type 0) (t : Test) (l : List Test) → OfNumber P t → OfNumber P (verdict l) → OfNumber P (verdict (t ∷ l))
unfolding verdict
verdict-number P passed l h i = i
verdict-number P (failed number place) l h i = h
