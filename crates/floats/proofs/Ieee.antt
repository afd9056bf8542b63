-- What the 32 bits of a float say here is what the toolchain's own IEEE 754 reads in them: which are numbers, their sign and their size. Assumes nothing.
use mathlib.Core.Path.{◌≡◌, refl, sym, subst, ◌∙◌}
use mathlib.Core.Bool.{Bool, true, false, cond}
use Prim.Native.Nat.{ℕ, zero, suc, ◌+◌, ◌-◌, ◌*◌, ◌/◌, ◌%◌, ◌^◌, ◌≤◌, ◌<◌}
use native.Mathlib.Nat.{mul-one}
use native.Mathlib.Decide.{dec_lt}
use native.Mathlib.Omega.{arith}
use borrow.Author.Tests.{ltb-true, lt-ltb, le-ltb, eq-eqb, ne_eqb}
use lib.Dec.{ltb, eqb, eqb-suc-zero}
use lib.Ieee.{nan, inf, binary32, odd, of_fields, of_bits}
use lib.Ieee.Exact.{HasValue, odd_sign}
use lib.Ieee.Scale as Ieee
use Rattle.floats.specs.Floats.{sign, magnitude, fraction, finite, units, metre}

same-fraction : (b : ℕ) → b % 2 ^ 23 ≡ fraction (magnitude b)
same-fraction b = omega arith

-- ---- the size, in units of 2 ^ -149

fields_value : (s : Bool) (x f : ℕ) → x < 255 → HasValue (of_fields binary32 s x f) s (cond (eqb x 0) f ((2 ^ 23 + f) * 2 ^ (x - 1))) metre
unfolding of_fields
fields_value s zero f h = subst (λ (u : ℕ). HasValue (odd 24 s f 0 149) s u metre) (mul-one f) (odd_sign 24 s f 0 149)
fields_value s (suc x) f h =
    let same : suc x - 1 ≡ x = omega arith in
    rw (ne_eqb (suc x) 255 (λ e. omega arith), eqb-suc-zero x, same) (odd_sign 24 s (2 ^ 23 + f) x 149)

pub bits-value : (b : ℕ) → finite (magnitude b) ≡ true → HasValue (of_bits binary32 b) (sign b) (units (magnitude b)) metre
unfolding of_bits units finite
bits-value b h =
    rw (same-fraction b) (fields_value (sign b) (magnitude b / 2 ^ 23) (fraction (magnitude b)) (ltb-true (magnitude b / 2 ^ 23) 255 h))

-- ---- infinities and NaN

odd-finite : (d : ℕ) (s : Bool) (q k l : ℕ) → Ieee.finite (odd d s q k l) ≡ true
unfolding odd
odd-finite d s zero k l = refl
odd-finite d s (suc q) k l = refl

not_finite : (s : Bool) (b : Bool) → Ieee.finite (cond b (inf s) nan) ≡ false
not_finite s true = refl
not_finite s false = refl

fields-finite : (s : Bool) (x f : ℕ) → x ≤ 255 → ltb x 255 ≡ Ieee.finite (of_fields binary32 s x f)
unfolding of_fields
fields-finite s zero f h = sym (odd-finite 24 s f 0 149)
fields-finite s (suc x) f h =
    elim (dec_lt (suc x) 255) [
      | yes l ↦ lt-ltb (suc x) 255 l ∙ rw (ne_eqb (suc x) 255 (λ e. omega arith)) (sym (odd-finite 24 s (2 ^ 23 + f) x 149))
      | no g ↦ le-ltb (suc x) 255 (omega arith) ∙ rw (eq-eqb (suc x) 255 (omega (arith, g))) (sym (not_finite s (eqb f 0)))
    ]

pub bits-finite : (b : ℕ) → finite (magnitude b) ≡ Ieee.finite (of_bits binary32 b)
unfolding of_bits finite
bits-finite b = fields-finite (sign b) (magnitude b / 2 ^ 23) (b % 2 ^ 23) (omega arith)
