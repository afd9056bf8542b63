-- The root of two is no quotient of whole numbers: twice a square is no square, but for 0. Assumes nothing.
use mathlib.Core.Path.{◌≡◌, sym, ap, ◌∙◌}
use Prim.Native.Nat.{ℕ, zero, suc, ◌+◌, ◌*◌, ◌/◌, ◌%◌, ◌≤◌, ◌<◌}
use native.Mathlib.Nat.{mul-le-mul, div-add-mod}
use native.Mathlib.Omega.{arith}
use native.Mathlib.Decide.{dec_lt}

-- a number whose square is twice another's is even, and the other's square is twice that of its half
half-square : (c d : ℕ) → 2 * (c * c) ≡ d * d → 2 * ((d / 2) * (d / 2)) ≡ c * c
half-square c d e = go (d / 2) (d % 2) (omega arith) (e ∙ ap (λ (m : ℕ). m * m) (sym (div-add-mod d 2)))
  where
    go : (h r : ℕ) → r < 2 → 2 * (c * c) ≡ (2 * h + r) * (2 * h + r) → 2 * (h * h) ≡ c * c
    go h zero l e = omega arith
    go h (suc zero) l e = absurd (omega arith)
    go h (suc (suc r)) l e = absurd (omega arith)

square-below : (c d : ℕ) → 2 * (c * c) ≡ d * d → 0 < c → c < d
square-below c d e p = elim (dec_lt c d) [ yes l ↦ l | no f ↦ let q : d ≤ c = omega arith in absurd (omega (arith, mul-le-mul q q, mul-le-mul p p)) ]

-- by descent
pub twice-square : (c d : ℕ) → 2 * (c * c) ≡ d * d → c ≡ 0
twice-square c d = go d c d (omega arith)
  where
    go : (n c d : ℕ) → d ≤ n → 2 * (c * c) ≡ d * d → c ≡ 0
    go zero c d h e = elim (dec_lt 0 c) [ yes p ↦ absurd (omega (arith, square-below c d e p)) | no f ↦ omega arith ]
    go (suc n) c d h e =
        elim (dec_lt 0 c) [
          | yes p ↦ let l = square-below c d e p in absurd (omega (arith, go n (d / 2) c (omega arith) (half-square c d e)))
          | no f ↦ omega arith
        ]
