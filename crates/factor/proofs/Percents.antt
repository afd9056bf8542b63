-- Slopes in percent: what they mean for a drop, and that the percentages in the code choose document 01's exponent and cutoff. Assumes nothing.
use mathlib.Core.Path.{◌≡◌, refl, sym, ap, ap₂, ◌∙◌}
use mathlib.Core.Bool.{Bool, true, false, cond}
use Prim.Native.Nat.{ℕ, ◌+◌, ◌*◌, ◌≤◌}
use native.Mathlib.Nat.{mul-le-mul, mul_assoc, mul_comm, one-mul, not-le_of_lt}
use native.Mathlib.Decide.{dec_le}
use native.Mathlib.Omega.{arith}
use borrow.Author.Tests.{le-leb, lt-leb, le-ltb, lt-ltb, leb-true, leb-false}
use lib.Dec.{leb, ltb}
use Rattle.factor.specs.Percent.{at_least, above}
use Rattle.factor.specs.Exponent.{exponent_of}
use Rattle.factor.specs.Inflow.{cutoff_for}

-- ---- the percentage of a drop

-- two comparisons that imply each other
same_test : (a b c d : ℕ) → (a ≤ b → c ≤ d) → (c ≤ d → a ≤ b) → leb a b ≡ leb c d
same_test a b c d f g = go (leb a b) refl
  where
    go : (t : Bool) → leb a b ≡ t → leb a b ≡ leb c d
    go true e = e ∙ sym (le-leb c d (f (leb-true a b e)))
    go false e = let f : c ≤ d → ⊥ = λ h. not-le_of_lt (leb-false a b e) (g h) in e ∙ sym (lt-leb c d (omega (arith, f)))

-- numbers compare as their squares do
squares-compare : (a b : ℕ) → leb a b ≡ leb (a * a) (b * b)
squares-compare a b = same_test a b (a * a) (b * b) (λ h. mul-le-mul h h) back
  where
    back : a * a ≤ b * b → a ≤ b
    back h = elim (dec_le a b) [ yes l ↦ l | no f ↦ let l : b + 1 ≤ a = omega (arith, f) in absurd (omega (arith, h, mul-le-mul l l)) ]

-- over a cell side: 100·d / c is n or more
pub cardinal-percent : (n c d : ℕ) → leb (n * c) (100 * d) ≡ at_least n c (2 * (d * d))
unfolding at_least
cardinal-percent n c d =
    squares-compare (n * c) (100 * d) ∙ ap₂ leb (swapped n c) (omega (arith, swapped 100 d))
  where
    swapped : (a b : ℕ) → a * b * (a * b) ≡ a * a * (b * b)
    swapped a b =
        mul_assoc a b (a * b)
        ∙ ap (λ (k : ℕ). a * k) (sym (mul_assoc b a b) ∙ ap (λ (k : ℕ). k * b) (mul_comm b a) ∙ mul_assoc a b b)
        ∙ sym (mul_assoc a a (b * b))

-- over a diagonal, √2·c, compared by squares
pub diagonal-percent : (n c d : ℕ) → leb (2 * (n * n * (c * c))) (10000 * (d * d)) ≡ at_least n c (d * d)
unfolding at_least
diagonal-percent n c d = same_test (2 * (n * n * (c * c))) (10000 * (d * d)) (n * n * (c * c)) (5000 * (d * d)) (λ h. omega (arith, h)) (λ h. omega (arith, h))

-- ---- document 01's bounds as percentages

pub five-percent : (c q : ℕ) → leb (c * c) (200 * q) ≡ at_least 5 c q
unfolding at_least
five-percent c q = same_test (c * c) (200 * q) (25 * (c * c)) (5000 * q) (λ h. omega (arith, h)) (λ h. omega (arith, h))

pub three-percent : (c q : ℕ) → ltb (9 * (c * c)) (5000 * q) ≡ above 3 c q
unfolding above
three-percent c q = refl

pub one-percent : (c q : ℕ) → leb (c * c) (5000 * q) ≡ at_least 1 c q
unfolding at_least
one-percent c q = ap (λ (k : ℕ). leb k (5000 * q)) (sym (one-mul (c * c)))

-- The classes, steepest first: 5 percent or more, above 3, 1 or more, and the rest.
pub exponent-chosen : (c q : ℕ) (five three one : Bool) → at_least 5 c q ≡ five → above 3 c q ≡ three → at_least 1 c q ≡ one
    → cond five 5 (cond three 4 (cond one 3 2)) ≡ exponent_of c q
unfolding exponent_of
exponent-chosen c q five three one e f g =
    sym (ap (λ (b : Bool). cond b 5 (cond (ltb (9 * (c * c)) (5000 * q)) 4 (cond (leb (c * c) (5000 * q)) 3 2))) (five-percent c q ∙ e)
    ∙ ap (λ (b : Bool). cond five 5 (cond b 4 (cond (leb (c * c) (5000 * q)) 3 2))) (three-percent c q ∙ f)
    ∙ ap (λ (b : Bool). cond five 5 (cond three 4 (cond b 3 2))) (one-percent c q ∙ g))

-- The receiving cell's slope picks the cutoff: the high one from 5 percent on.
pub cutoff-chosen : (low high c q : ℕ) (five : Bool) → at_least 5 c q ≡ five → cond five high low ≡ cutoff_for low high c q
unfolding cutoff_for
cutoff-chosen low high c q five e = go five (five-percent c q ∙ e)
  where
    go : (b : Bool) → leb (c * c) (200 * q) ≡ b → cond b high low ≡ cond (ltb (200 * q) (c * c)) low high
    go true h = ap (λ (b : Bool). cond b low high) (sym (le-ltb (200 * q) (c * c) (leb-true (c * c) (200 * q) h)))
    go false h = ap (λ (b : Bool). cond b low high) (sym (lt-ltb (200 * q) (c * c) (leb-false (c * c) (200 * q) h)))

-- ---- products fit

-- n percent of a side as long as a map can have
pub percent-fits : (n c : ℕ) → n ≤ 100 → c ≤ 100000 → n * n * (c * c) ≤ 100000000000000
percent-fits n c h l = mul-le-mul (mul-le-mul h h) (mul-le-mul l l)
