-- Signed comparisons as tests, and a negated number's width. Assumes nothing.
use mathlib.Core.Path.{◌≡◌, refl, sym}
use mathlib.Core.Bool.{true, false}
use Prim.Native.Nat.{ℕ, zero, suc, ◌^◌, ◌<◌}
use native.Mathlib.Nat.{le_of_lt}
use borrow.Author.Tests.{ltb-true, ltb-false, lt-leb, le-leb}
use lib.IntN.{ℤ, pos, negsuc, neg_ℤ, ◌-ℤ◌, +ℤ_idl}
use lib.Signed.{lt_z, le_z}
use mir.Syntax.{w64}
use mir.Val.{SFits}
use mir.Facts.{sfits_lit}

pub lt_not_le : (a b : ℤ) → lt_z a b ≡ true → le_z b a ≡ false
lt_not_le (pos a) (pos b) h = lt-leb b a (ltb-true a b h)
lt_not_le (pos a) (negsuc b) h = sym h
lt_not_le (negsuc a) (pos b) h = refl
lt_not_le (negsuc a) (negsuc b) h = lt-leb a b (ltb-true b a h)

pub not-lt-le : (a b : ℤ) → lt_z a b ≡ false → le_z b a ≡ true
not-lt-le (pos a) (pos b) h = le-leb b a (ltb-false a b h)
not-lt-le (pos a) (negsuc b) h = refl
not-lt-le (negsuc a) (pos b) h = sym h
not-lt-le (negsuc a) (negsuc b) h = le-leb a b (ltb-false b a h)

pub negate-is : (q : ℕ) → pos 0 -ℤ pos q ≡ neg_ℤ (pos q)
negate-is q = +ℤ_idl (neg_ℤ (pos q))

pub negate-fits : (q : ℕ) → q < 2 ^ 63 → SFits w64 (neg_ℤ (pos q))
negate-fits zero h = sfits_lit tt
negate-fits (suc n) h = record { sfits = le_of_lt h }
