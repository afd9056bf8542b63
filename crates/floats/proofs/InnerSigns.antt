-- The float nearest a number of either sign. Assumes nothing.
use mathlib.Core.Path.{◌≡◌, refl, sym, ap}
use mathlib.Core.Bool.{true, false, true≢false}
use Prim.Native.Nat.{ℕ, ◌+◌}
use native.Mathlib.Numerals.{add-one}
use native.Mathlib.Omega.{arith}
use borrow.Author.Tests.{ltb-true}
use lib.IntN.{ℤ, pos, negsuc, nat_abs}
use lib.Signed.{lt_z}
use Rattle.floats.specs.Rounding.{nearest_magnitude, nearest_float}

pub minus-float : (z : ℤ) → lt_z z (pos 0) ≡ true → 2147483648 + nearest_magnitude (nat_abs z) ≡ nearest_float z
unfolding nearest_float
minus-float (pos n) h = absurd (omega (arith, ltb-true n 0 h))
minus-float (negsuc n) h = ap (λ (k : ℕ). 2147483648 + nearest_magnitude k) (sym (add-one n))

pub plus-float : (z : ℤ) → lt_z z (pos 0) ≡ false → nearest_magnitude (nat_abs z) ≡ nearest_float z
unfolding nearest_float
plus-float (pos n) h = refl
plus-float (negsuc n) h = absurd (true≢false h)
