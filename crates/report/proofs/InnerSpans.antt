-- Laws of sums and greatest numbers: of two functions over the same places, and over the places from one on. Assumes nothing.
use mathlib.Core.Path.{◌≡◌, refl, ap}
use Prim.Native.Nat.{ℕ, zero, suc, ◌+◌, ◌≤◌, ◌<◌, max}
use native.Mathlib.Omega.{arith}
use native.Mathlib.Decide.{ℕ_discrete}
use Rattle.laws.specs.Sums.{sum_to, greatest_to}
use native.Mathlib.Nat.{add-zero, add-suc}
use Rattle.laws.proofs.Sums.{sum-le, sum-none, greatest-none}

-- where the one is nowhere more, and its sum is no less, it is nowhere less
pub span_same : (n : ℕ) (f g : ℕ → ℕ) → ((x : ℕ) → x < n → f x ≤ g x) → sum_to n g ≤ sum_to n f → (x : ℕ) → x < n → g x ≤ f x
unfolding sum_to
span_same zero f g le s x k = absurd (omega arith)
span_same (suc n) f g le s x k =
    let here : f n ≤ g n = le n (omega arith) in
    let below = sum-le n f g (λ y j. le y (omega arith)) in
    elim (ℕ_discrete x n) [
      | yes q ↦ omega (arith, ap f q, ap g q, below)
      | no d ↦ span_same n f g (λ y j. le y (omega arith)) (omega (arith, below, here)) x (omega arith)
    ]

sum_suc : (m : ℕ) (g : ℕ → ℕ) → sum_to (suc m) g ≡ sum_to m g + g m
unfolding sum_to
sum_suc m g = refl

greatest_suc : (m : ℕ) (g : ℕ → ℕ) → greatest_to (suc m) g ≡ max (greatest_to m g) (g m)
unfolding greatest_to
greatest_suc m g = refl

-- some places, and those after them
pub sum-after : (a n : ℕ) (f : ℕ → ℕ) → sum_to (a + n) f ≡ sum_to a f + sum_to n (λ x. f (a + x))
sum-after a zero f = rw (add-zero a) (omega (arith, sum-none (λ x. f (a + x))))
sum-after a (suc n) f =
    rw (add-suc a n) (omega (arith, sum-after a n f, sum_suc (a + n) f, sum_suc n (λ x. f (a + x))))

pub greatest-after : (a n : ℕ) (f : ℕ → ℕ) → greatest_to (a + n) f ≡ max (greatest_to a f) (greatest_to n (λ x. f (a + x)))
greatest-after a zero f = rw (add-zero a) (omega (arith, greatest-none (λ x. f (a + x))))
greatest-after a (suc n) f =
    rw (add-suc a n) (omega (arith, greatest-after a n f, greatest_suc (a + n) f, greatest_suc n (λ x. f (a + x))))
