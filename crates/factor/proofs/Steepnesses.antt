-- The steepness factor never falls as a slope gets steeper, by either formula; where the newer one changes its line, the sine is 89. Assumes nothing.
use mathlib.Core.Path.{◌≡◌, refl, sym, ◌∙◌}
use mathlib.Core.Bool.{Bool, true, false, true≢false}
use Prim.Native.Nat.{ℕ, ◌+◌, ◌-◌, ◌*◌, ◌≤◌, ◌<◌}
use native.Mathlib.Nat.{mul-le-mul, mul-le-mul_right, mul-add}
use native.Mathlib.Decide.{dec_lt, ℕ_discrete}
use native.Mathlib.Omega.{arith}
use borrow.Author.Tests.{le-leb, leb-true, leb-false}
use Rattle.settings.specs.declared.Formula.{Formula}
use Rattle.settings.specs.declared.Formula.TheVariants.{Older, Newer}
use Rattle.factor.specs.Percent.{at_least}
use Rattle.factor.specs.Steepness.{sine_reaches, sine_of, older_factor, is_steep, newer_factor, counted, steepness_factor}
use Rattle.laws.proofs.Greatest.{greatest-passes, greatest-above}
use Rattle.factor.proofs.Sines.{sine-falling, sine-within}

-- ---- the sine

-- it is at least what it reaches
sine-above : (c q u : ℕ) → u ≤ 1000 → sine_reaches c q u ≡ true → u ≤ sine_of c q
unfolding sine_of
sine-above c q u h e =
    elim (dec_lt (sine_of c q) u) [
      | yes l ↦ absurd (true≢false (sym e ∙ greatest-above (sine_reaches c q) 1000 u l h))
      | no f ↦ omega (arith, f)
    ]

-- and reaches what it is, where that is not 0
sine-reaches : (c q : ℕ) → 0 < sine_of c q → sine_reaches c q (sine_of c q) ≡ true
unfolding sine_of
sine-reaches c q h = greatest-passes (sine_reaches c q) 1000 h

-- a sine that is reached is reached by every steeper slope: its square is at most 1,000,000, so the left side grows no faster than the right one
reaches-steeper : (c q d u : ℕ) → u ≤ 1000 → sine_reaches c q u ≡ true → sine_reaches c (q + d) u ≡ true
reaches-steeper c q d u h e =
    let s = u * u in
    let square : s ≤ 1000000 = mul-le-mul h h in
    let r : s * (q + 2 * (c * c)) ≤ 1000000 * q = leb-true (s * (q + 2 * (c * c))) (1000000 * q) e in
    le-leb (s * (q + d + 2 * (c * c))) (1000000 * (q + d))
    (omega (arith, r, mul-add s q (2 * (c * c)), mul-add s (q + d) (2 * (c * c)), mul-add s q d, mul-le-mul_right d square))

pub sine-rises : (c q d : ℕ) → sine_of c q ≤ sine_of c (q + d)
sine-rises c q d =
    elim (ℕ_discrete (sine_of c q) 0) [
      | yes e ↦ omega (arith, e)
      | no f ↦ sine-above c (q + d) (sine_of c q) (sine-within c q) (reaches-steeper c q d (sine_of c q) (sine-within c q) (sine-reaches c q (omega (arith, f))))
    ]

-- ---- nine percent

-- nine percent by the percentage in the code
pub nine-percent : (c q : ℕ) → is_steep c q ≡ at_least 9 c q
unfolding is_steep at_least
nine-percent c q = refl

-- from nine percent on the sine is 89 thousandths at least, below it is 89 at most
pub steep-sine : (c q : ℕ) → is_steep c q ≡ true → 89 ≤ sine_of c q
unfolding is_steep
steep-sine c q e =
    let h = leb-true (81 * (c * c)) (5000 * q) e in
    sine-above c q 89 (omega arith) (le-leb (89 * 89 * (q + 2 * (c * c))) (1000000 * q) (omega (arith, h)))

pub gentle-sine : (c q : ℕ) → is_steep c q ≡ false → sine_of c q ≤ 89
unfolding is_steep
gentle-sine c q e =
    let h = leb-false (81 * (c * c)) (5000 * q) e in
    elim (dec_lt 89 (sine_of c q)) [
      | yes l ↦ absurd (omega (
        arith,
        h,
        leb-true (90 * 90 * (q + 2 * (c * c))) (1000000 * q)
            (sine-falling c q 1000 90 (sine_of c q) (omega arith) (omega (arith, l)) (sine-within c q) (sine-reaches c q (omega (arith, l)))),
      ))
      | no f ↦ omega (arith, f)
    ]

-- a sine that counts is no less than the sine
pub counted-above : (u : ℕ) → u ≤ counted u
unfolding counted
counted-above u = omega arith

-- a steeper slope is of nine percent or more too
still-steep : (c q d : ℕ) → is_steep c q ≡ true → is_steep c (q + d) ≡ true
unfolding is_steep
still-steep c q d e = le-leb (81 * (c * c)) (5000 * (q + d)) (omega (arith, leb-true (81 * (c * c)) (5000 * q) e))

-- ---- the factor

older-rises : (u v : ℕ) → u ≤ v → older_factor u ≤ older_factor v
unfolding older_factor
older-rises u v h = omega (arith, mul-le-mul h h)

-- the newer formula, for a steeper slope of a sine that is no less: 89 thousandths give 991 below nine percent, and 995 from there on
newer-rises : (a b : Bool) (u v : ℕ) → u ≤ v → (a ≡ true → b ≡ true) → (a ≡ false → u ≤ 89) → (b ≡ true → 89 ≤ v) →
    newer_factor a (counted u) ≤ newer_factor b (counted v)
unfolding newer_factor counted
newer-rises true true u v h still low high = omega arith
newer-rises true false u v h still low high = absurd (true≢false (sym (still refl)))
newer-rises false true u v h still low high = omega (arith, low refl, high refl)
newer-rises false false u v h still low high = omega arith

rises_by : (formula : Formula) (c q d : ℕ) → steepness_factor formula c q ≤ steepness_factor formula c (q + d)
unfolding steepness_factor
rises_by Older c q d = older-rises (sine_of c q) (sine_of c (q + d)) (sine-rises c q d)
rises_by Newer c q d =
    newer-rises (is_steep c q) (is_steep c (q + d)) (sine_of c q) (sine_of c (q + d)) (sine-rises c q d)
    (still-steep c q d) (gentle-sine c q) (steep-sine c (q + d))

-- S never falls as the steepness q rises, for a fixed cell side c, by either formula
pub steepness-rises : (formula : Formula) (c q p : ℕ) → q ≤ p → steepness_factor formula c q ≤ steepness_factor formula c p
steepness-rises formula c q p h =
    let e : q + (p - q) ≡ p = omega arith in
    rw e at (rises_by formula c q (p - q))
