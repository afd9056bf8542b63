-- The search for the sine: a u passes its test where a greater one does, and none above 1,000 passes. Assumes nothing.
use mathlib.Core.Path.{◌≡◌, sym, ◌∙◌}
use mathlib.Core.Bool.{true, false}
use Prim.Native.Nat.{ℕ, zero, suc, ◌+◌, ◌*◌, ◌≤◌, ◌<◌}
use native.Mathlib.Nat.{le_trans, mul-le-mul, mul-le-mul_right}
use native.Mathlib.Decide.{dec_le}
use native.Mathlib.Omega.{arith}
use borrow.Author.Tests.{leb-true, le-leb, lt-leb}
use Rattle.laws.specs.Greatest.{greatest}
use Rattle.factor.specs.Steepness.{sine_reaches, sine_of}
use Rattle.laws.proofs.Greatest.{Falling, greatest-is, greatest-within, greatest-passes, greatest-above}
use Rattle.factor.proofs.InnerGuesses.{greatest-here}

-- the two sides of the test
abbrev asked : ℕ → ℕ → ℕ → ℕ
asked c q u = u * u * (q + 2 * (c * c))

abbrev given : ℕ → ℕ
given q = 1000000 * q

pub sine-falling : (c q n : ℕ) → Falling (sine_reaches c q) n
sine-falling c q n u v p h l t = le-leb (asked c q u) (given q) (le_trans (mul-le-mul_right (q + 2 * (c * c)) (mul-le-mul h h)) (leb-true (asked c q v) (given q) t))

pub sine-within : (c q : ℕ) → sine_of c q ≤ 1000
unfolding sine_of
sine-within c q = greatest-within (sine_reaches c q) 1000

-- the sine is the greatest of all, not only of those up to 1,000
pub sine-greatest : (c q : ℕ) → 1 ≤ c →
    (sine_reaches c q (sine_of c q) ≡ true) × ((u : ℕ) → sine_of c q < u → sine_reaches c q u ≡ false)
unfolding sine_of
sine-greatest c q h =
    (low (greatest (sine_reaches c q) 1000) (greatest-passes (sine_reaches c q) 1000), (λ u g. high u g (dec_le u 1000)))
  where
    low : (t : ℕ) → (0 < t → sine_reaches c q t ≡ true) → sine_reaches c q t ≡ true
    low zero p = le-leb (asked c q 0) (given q) (omega arith)
    low (suc t) p = p (omega arith)

    high : (u : ℕ) → greatest (sine_reaches c q) 1000 < u → Dec (u ≤ 1000) → sine_reaches c q u ≡ false
    high u g (yes d) = greatest-above (sine_reaches c q) 1000 u g d
    high u g (no d) =
        let l : 1000 ≤ u = omega (arith, d) in
        let w : 1000 * 1000 * (q + 2 * (c * c)) ≤ asked c q u = mul-le-mul_right (q + 2 * (c * c)) (mul-le-mul l l) in
        lt-leb (asked c q u) (given q) (omega (arith, mul-le-mul h h))

-- a search may go further
pub sine-wide : (c q n : ℕ) → 1 ≤ c → 1000 ≤ n → greatest (sine_reaches c q) n ≡ sine_of c q
sine-wide c q n h l =
    let all = sine-greatest c q h in
    greatest-is (sine_reaches c q) n (sine_of c q) (omega (arith, sine-within c q)) (λ p. all.0) (λ u a b. all.1 u a)

-- a u that passes, with the next one failing
pub sine-here : (c q u : ℕ) → 1 ≤ c → sine_reaches c q u ≡ true → sine_reaches c q (u + 1) ≡ false → sine_of c q ≡ u
sine-here c q u h passes fails = sym (sine-wide c q (u + 1000) h (omega arith)) ∙ greatest-here (u + 1000) u (sine-falling c q (u + 1000)) (omega arith) passes fails
