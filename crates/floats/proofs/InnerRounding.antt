-- Rounding by a division and by a shift, as the functions do it. Assumes nothing.
use mathlib.Core.Path.{◌≡◌, sym, ap, ◌∙◌, subst}
use Prim.Native.Nat.{ℕ, suc, ◌+◌, ◌-◌, ◌*◌, ◌/◌, ◌%◌, ◌^◌, ◌≤◌, ◌<◌}
use native.Mathlib.Nat.{le_of_lt, mod-lt, mod-eq_of_lt, div-lt_iff_lt-mul, pow-suc, mul_comm, one-mul, mul-one, mul-le-mul, le_refl, lt_of_le_of_lt}
use native.Mathlib.Omega.{arith}
use lib.Dec.{lit<}
use lib.Pow.{pow_pos, pow_mono}
use Rattle.floats.specs.Rounding.{nearest}
use Rattle.floats.proofs.Nearest.{nearest-down, nearest-up, nearest-half, nearest-shift, nearest-le}

-- n / d is rounded, and is at most 2 ^ 24
module _ (n d : ℕ) (p : 0 < d) (l : n < 16777216 * d) where
  pub quotient-few : n / d < 16777216
  quotient-few = (div-lt_iff_lt-mul p).1 l

  pub rest_le : n % d ≤ d
  rest_le = le_of_lt (mod-lt n p)

  few : nearest n d ≤ 16777216
  few = nearest-le n d 16777216 p (le_of_lt l)

  -- what a case finds
  found : (c : ℕ) → c ≡ nearest n d → (c ≡ nearest n d) × (c ≤ 16777216)
  found c e = (e, subst (λ (k : ℕ). k ≤ 16777216) (sym e) few)

  pub down_is : n % d < d - n % d → (n / d ≡ nearest n d) × (n / d ≤ 16777216)
  down_is h = found (n / d) (nearest-down n d p h)

  pub up_is : d - n % d < n % d → (n / d + 1 ≡ nearest n d) × (n / d + 1 ≤ 16777216)
  up_is h = found (n / d + 1) (nearest-up n d p h)

  pub half_is : d - n % d ≤ n % d → n % d ≤ d - n % d → (n / d + n / d % 2 ≡ nearest n d) × (n / d + n / d % 2 ≤ 16777216)
  half_is h k = found (n / d + n / d % 2) (nearest-half n d p (omega arith))

-- n / 2 ^ s is rounded by adding half of 2 ^ s less one, and one more if the quotient is odd
module _ (s : ℕ) (lo : 1 ≤ s) (hi : s ≤ 32) where
  -- a half, as the machine shifts it
  pub half_le : 2 ^ (s - 1) ≤ 2147483648
  half_le = pow_mono {i = s - 1} {j = 31} (omega arith)

  pub half_pos : 1 ≤ 2 ^ (s - 1)
  half_pos = pow_pos (s - 1)

  pub half-bits : (1 * 2 ^ (s - 1)) % 18446744073709551616 ≡ 2 ^ (s - 1)
  half-bits = ap (λ (k : ℕ). k % 18446744073709551616) (one-mul (2 ^ (s - 1))) ∙ mod-eq_of_lt (lt_of_le_of_lt half_le (lit< tt))

  two-halves : 2 ^ s ≡ 2 * 2 ^ (s - 1)
  two-halves =
      let e : s ≡ suc (s - 1) = omega arith in
      ap (λ (k : ℕ). 2 ^ k) e ∙ pow-suc 2 (s - 1) ∙ mul_comm (2 ^ (s - 1)) 2

  pub shift_is : (n : ℕ) → (n + (2 ^ (s - 1) - 1) + n / 2 ^ s % 2) / 2 ^ s ≡ nearest n (2 ^ s)
  shift_is n = subst (λ (d : ℕ). (n + (2 ^ (s - 1) - 1) + n / d % 2) / d ≡ nearest n d) (sym two-halves) (sym (nearest-shift n (2 ^ (s - 1)) half_pos))

  pub shift_le : (n : ℕ) → nearest n (2 ^ s) ≤ n
  shift_le n = nearest-le n (2 ^ s) n (pow_pos s) (subst (λ (k : ℕ). k ≤ n * 2 ^ s) (mul-one n) (mul-le-mul (le_refl n) (pow_pos s)))
