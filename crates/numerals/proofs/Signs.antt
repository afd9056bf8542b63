-- Laws of signed numbers: a number without its sign, as the code takes it, and how a signed number is written. Assumes nothing.
use mathlib.Core.Path.{◌≡◌, refl}
use mathlib.Core.Bool.{true, false, true≢false}
use mathlib.Core.List.{◌∷◌}
use Prim.Native.Nat.{◌≤◌}
use native.Mathlib.Omega.{arith}
use borrow.Author.Tests.{ltb-true}
use lib.ListN.{length}
use lib.IntN.{ℤ, pos, negsuc, nat_abs}
use lib.Signed.{lt_z, nat_abs-le}
use mir.Syntax.{w32}
use mir.Val.{SFits, to_z, of_z}
use mir.Facts.{to_z-of_z}
use Rattle.numerals.specs.Words.{decimal, integer}
use Rattle.numerals.proofs.Decimal.{decimal-short}

pub size_small : (z : ℤ) → SFits w32 z → nat_abs z ≤ 2147483648
size_small z f = nat_abs-le z f.sfits

-- a number below 0 is written with a minus, and any other without
integer-below : (z : ℤ) → lt_z z (pos 0) ≡ true → integer z ≡ 45 ∷ decimal (nat_abs z)
unfolding integer
integer-below (pos n) h = absurd (omega (arith, ltb-true n 0 h))
integer-below (negsuc n) h = refl

integer-above : (z : ℤ) → lt_z z (pos 0) ≡ false → integer z ≡ decimal (nat_abs z)
unfolding integer
integer-above (pos n) h = refl
integer-above (negsuc n) h = absurd (true≢false h)

-- what the code finds of a number of 32 bits that is below 0
module _ (z : ℤ) (f : SFits w32 z) (h : lt_z (to_z w32 (of_z w32 z)) (pos 0) ≡ true) where
  pub integer-minus : integer z ≡ 45 ∷ decimal (nat_abs z)
  integer-minus = integer-below z (rw (to_z-of_z f) at h)

-- and of one that is not
module _ (z : ℤ) (f : SFits w32 z) (h : lt_z (to_z w32 (of_z w32 z)) (pos 0) ≡ false) where
  pub integer-plus : integer z ≡ decimal (nat_abs z)
  integer-plus = integer-above z (rw (to_z-of_z f) at h)

-- a number of 32 bits has ten digits and a sign at most
pub integer-short : (z : ℤ) → SFits w32 z → length (integer z) ≤ 11
unfolding integer
integer-short z f = short z (decimal-short 9 (nat_abs z) (omega (arith, size_small z f)))
  where
    short : (z : ℤ) → length (decimal (nat_abs z)) ≤ 10 → length (integer z) ≤ 11
    short (pos n) h = omega arith
    short (negsuc n) h = omega arith
