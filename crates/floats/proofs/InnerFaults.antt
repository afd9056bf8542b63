-- Which floats have a fault, by their bits: rounding never falls as a float rises, so the range is one of bits. Assumes nothing.
use mathlib.Core.Path.{◌≡◌, refl, sym, ap, ◌∙◌, subst}
use mathlib.Core.Bool.{Bool, true, false, cond, ◌||◌, ◌&&◌}
use Prim.Native.Nat.{ℕ, zero, suc, ◌*◌, ◌/◌, ◌^◌, ◌≤◌, ◌<◌}
use native.Mathlib.Decide.{dec_le}
use native.Mathlib.Omega.{arith}
use borrow.Author.Tests.{eq-eqb, lt-ltb, le-ltb, le-leb, lt-leb}
use lib.Dec.{eqb}
use lib.IntN.{ℤ, pos, neg_ℤ, ◌-ℤ◌, +ℤ_idl}
use mir.Syntax.{w32}
use mir.Val.{SFits, to_z, of_z}
use mir.Facts.{to_z-of_z}
use Rattle.text.specs.Quantities.{height_in, no_data_height}
use Rattle.text.specs.Numbers.{centimetres}
use Rattle.floats.specs.Floats.{magnitude, finite, units, metre, equal}
use Rattle.floats.specs.Rounding.{nearest, cm}
use Rattle.floats.specs.Answers.{fault_of, height_of}
use Rattle.floats.proofs.Units.{plus-in, plus-out, minus-in, minus-out}

-- ---- heights of either sign

minus-low : (k : ℕ) → k ≤ 50000 → height_in (centimetres true k) ≡ true
minus-low zero h = refl
minus-low (suc k) h = rw (le-leb k 49999 (omega arith)) refl

minus-high : (k : ℕ) → 50000 < k → height_in (centimetres true k) ≡ false
minus-high zero h = absurd (omega arith)
minus-high (suc k) h = rw (lt-leb k 49999 (omega arith)) refl

-- ---- the cm of a float, by its sign

-- its size in whole cm
abbrev pub size : ℕ → ℕ
size m = nearest (100 * units m) metre

module _ (b : ℕ) where
  pub plus-cm : b < 2147483648 → cm b ≡ pos (size (magnitude b))
  unfolding cm
  plus-cm h = ap (λ (s : Bool). centimetres s (size (magnitude b))) (lt-leb 2147483648 b h)

  pub minus-cm : 2147483648 ≤ b → cm b ≡ neg_ℤ (pos (size (magnitude b)))
  unfolding cm
  minus-cm h = ap (λ (s : Bool). centimetres s (size (magnitude b))) (le-leb 2147483648 b h)

  plus-yes : b < 2147483648 → magnitude b ≤ 1175232517 → height_in (cm b) ≡ true
  plus-yes h l = ap height_in (plus-cm h) ∙ le-leb (size (magnitude b)) 900000 (plus-in (magnitude b) l)

  plus-no : b < 2147483648 → 1175232517 < magnitude b → height_in (cm b) ≡ false
  plus-no h l = ap height_in (plus-cm h) ∙ lt-leb (size (magnitude b)) 900000 (plus-out (magnitude b) l)

  minus-yes : 2147483648 ≤ b → magnitude b ≤ 1140457635 → height_in (cm b) ≡ true
  minus-yes h l = ap height_in (minus-cm h) ∙ minus-low (size (magnitude b)) (minus-in (magnitude b) l)

  minus-no : 2147483648 ≤ b → 1140457635 < magnitude b → height_in (cm b) ≡ false
  minus-no h l = ap height_in (minus-cm h) ∙ minus-high (size (magnitude b)) (minus-out (magnitude b) l)

-- ---- the fault of a float

module _ (v b : ℕ) where
  pub fault-infinite : 2139095040 ≤ magnitude b → 15 ≡ fault_of v b
  unfolding fault_of finite
  fault-infinite h = ap (λ (f : Bool). cond f (cond (equal b v || height_in (cm b)) 0 5) 15) (sym (le-ltb (magnitude b / 2 ^ 23) 255 (omega arith)))

  pub equal-same : b ≡ v → equal b v ≡ true
  unfolding equal
  equal-same e = ap (λ (t : Bool). t || (eqb (magnitude b) 0 && eqb (magnitude v) 0)) (eq-eqb b v e)

  -- of a finite one
  module _ (h : magnitude b < 2139095040) where
    judged : fault_of v b ≡ cond (equal b v || height_in (cm b)) 0 5
    unfolding fault_of finite
    judged = ap (λ (f : Bool). cond f (cond (equal b v || height_in (cm b)) 0 5) 15) (lt-ltb (magnitude b / 2 ^ 23) 255 (omega arith))

    pub fault-no-data : equal b v ≡ true → 0 ≡ fault_of v b
    fault-no-data e = sym (judged ∙ ap (λ (t : Bool). cond (t || height_in (cm b)) 0 5) e)

    module _ (e : equal b v ≡ false) where
      by-range : (t : Bool) → height_in (cm b) ≡ t → cond t 0 5 ≡ fault_of v b
      by-range t r = sym (judged ∙ ap (λ (t : Bool). cond (t || height_in (cm b)) 0 5) e ∙ ap (λ (t : Bool). cond t 0 5) r)

      pub plus-clear : b < 2147483648 → magnitude b ≤ 1175232517 → 0 ≡ fault_of v b
      plus-clear s l = by-range true (plus-yes b s l)

      pub plus-fault : b < 2147483648 → 1175232517 < magnitude b → 5 ≡ fault_of v b
      plus-fault s l = by-range false (plus-no b s l)

      pub minus-clear : 2147483648 ≤ b → magnitude b ≤ 1140457635 → 0 ≡ fault_of v b
      minus-clear s l = by-range true (minus-yes b s l)

      pub minus-fault : 2147483648 ≤ b → 1140457635 < magnitude b → 5 ≡ fault_of v b
      minus-fault s l = by-range false (minus-no b s l)

  -- ---- the height of a float without a fault

  pub height-no-data : equal b v ≡ true → no_data_height ≡ height_of v b
  unfolding height_of
  height-no-data e = ap (λ (t : Bool). cond t no_data_height (cm b)) (sym e)

  module _ (f : fault_of v b ≡ 0) (e : equal b v ≡ false) where
    pub height-other : cm b ≡ height_of v b
    unfolding height_of
    height-other = ap (λ (t : Bool). cond t no_data_height (cm b)) (sym e)

    -- it is finite, and so in range
    finite-bits : magnitude b < 2139095040
    finite-bits = elim (dec_le 2139095040 (magnitude b)) [ yes h ↦ absurd (go (fault-infinite h)) | no h ↦ omega (arith, h) ]
      where
        go : 15 ≡ fault_of v b → ⊥
        go q = omega (arith, q, f)

    pub plus-bits : b < 2147483648 → magnitude b ≤ 1175232517
    plus-bits s = elim (dec_le (magnitude b) 1175232517) [ yes h ↦ h | no h ↦ absurd (go (plus-fault finite-bits e s (omega (arith, h)))) ]
      where
        go : 5 ≡ fault_of v b → ⊥
        go q = omega (arith, q, f)

    pub minus-bits : 2147483648 ≤ b → magnitude b ≤ 1140457635
    minus-bits s = elim (dec_le (magnitude b) 1140457635) [ yes h ↦ h | no h ↦ absurd (go (minus-fault finite-bits e s (omega (arith, h)))) ]
      where
        go : 5 ≡ fault_of v b → ⊥
        go q = omega (arith, q, f)

    pub bits-few : magnitude b ≤ 1175232517
    bits-few = elim (dec_le 2147483648 b) [ yes h ↦ omega (arith, minus-bits h) | no h ↦ plus-bits (omega (arith, h)) ]

    pub size_few : size (magnitude b) ≤ 900000
    size_few = plus-in (magnitude b) bits-few

-- ---- a few cm in 32 bits

module _ (k : ℕ) (l : k ≤ 900000) where
  pub plus-fits : SFits w32 (pos k)
  plus-fits = record { sfits = omega arith }

  pub plus-is : to_z w32 k ≡ pos k
  plus-is = to_z-of_z {w = w32} {z = pos k} plus-fits

  opposite : pos 0 -ℤ to_z w32 k ≡ neg_ℤ (pos k)
  opposite = ap (λ (z : ℤ). pos 0 -ℤ z) plus-is ∙ +ℤ_idl (neg_ℤ (pos k))

  opposite-fits : SFits w32 (neg_ℤ (pos k))
  opposite-fits = go k l
    where
      go : (k : ℕ) → k ≤ 900000 → SFits w32 (neg_ℤ (pos k))
      go zero l = record { sfits = omega arith }
      go (suc k) l = record { sfits = omega arith }

  pub minus-fits : SFits w32 (pos 0 -ℤ to_z w32 k)
  minus-fits = subst (SFits w32) (sym opposite) opposite-fits

  pub minus_is : to_z w32 (of_z w32 (pos 0 -ℤ to_z w32 k)) ≡ neg_ℤ (pos k)
  minus_is = ap (λ (z : ℤ). to_z w32 (of_z w32 z)) opposite ∙ to_z-of_z opposite-fits
