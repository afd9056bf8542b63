-- The exact size of a float rises with its bits, and which floats are in range: their cm by a shift, and the last floats within the bounds of heights.
-- Assumes nothing.
use mathlib.Core.Path.{◌≡◌, refl, sym, ap, ap₂, ◌∙◌, subst}
use mathlib.Core.Bool.{Bool, true, false}
use Prim.Native.Nat.{ℕ, zero, suc, ◌+◌, ◌-◌, ◌*◌, ◌/◌, ◌%◌, ◌^◌, ◌≤◌, ◌<◌, zero-le}
use native.Mathlib.Nat.{div-eq_of_lt, mod-eq_of_lt, mul-one, mul_assoc, mul-le-mul_left, mul-lt-mul_of_pos_right, pow-suc}
use native.Mathlib.Nat.{le_trans, lt_trans, lt_of_lt_of_le, le_of_eq, le_of_lt, le_antisymm}
use native.Mathlib.Decide.{dec_lt, ℕ_discrete}
use native.Mathlib.Omega.{arith}
use borrow.Author.Tests.{lt-ltb, le-ltb}
use lib.Dec.{ltb, lit≤, lit<, eqb-suc-zero}
use lib.IntN.{nat_abs}
use lib.Pow.{pow_pos, pow_mono, pow-add, high, low}
use Rattle.laws.proofs.First.{first-is}
use Rattle.text.specs.Numbers.{centimetres}
use Rattle.floats.specs.Floats.{sign, magnitude, units, metre}
use Rattle.floats.specs.Rounding.{nearest, Near, cm, doublings}
use Rattle.floats.proofs.Nearest.{nearest-near, nearest-scale, nearest-mono}

-- ---- the units, by the doublings e of a whole number s

units-zero : (f : ℕ) → f < 2 ^ 23 → units f ≡ f
unfolding units
units-zero f h = rw (div-eq_of_lt h, mod-eq_of_lt h)

units-suc : (e f : ℕ) → f < 2 ^ 23 → units (suc e * 2 ^ 23 + f) ≡ (2 ^ 23 + f) * 2 ^ e
unfolding units
units-suc e f h = rw (high (suc e) 23 h, low (suc e) 23 h, eqb-suc-zero e) (ap (λ (x : ℕ). (2 ^ 23 + f) * 2 ^ x) (omega arith))

-- s is the fraction, with 2 ^ 23 more if it is doubled; 2 ^ 24 is the first of the next exponent
pub units-at : (e s : ℕ) → (0 < e → 2 ^ 23 ≤ s) → s ≤ 2 ^ 24 → units (e * 2 ^ 23 + s) ≡ s * 2 ^ e
units-at e s h l =
    elim (dec_lt s (2 ^ 23)) [
      | yes a ↦ small e a h
      | no a ↦
          elim (dec_lt s (2 ^ 24)) [
            | yes b ↦
                ap units {x = e * 2 ^ 23 + s} {y = suc e * 2 ^ 23 + (s - 2 ^ 23)} (omega arith)
                ∙ units-suc e (s - 2 ^ 23) (omega arith) ∙ ap (λ (x : ℕ). x * 2 ^ e) (omega arith)
            | no b ↦ ap units {x = e * 2 ^ 23 + s} {y = suc (suc e) * 2 ^ 23 + 0} (omega arith) ∙ units-suc (suc e) 0 (lit< tt) ∙ top (omega arith)
          ]
    ]
  where
    small : (e : ℕ) → s < 2 ^ 23 → (0 < e → 2 ^ 23 ≤ s) → units (e * 2 ^ 23 + s) ≡ s * 2 ^ e
    small zero a h = ap units {x = 0 * 2 ^ 23 + s} {y = s} (omega arith) ∙ units-zero s a ∙ sym (mul-one s)
    small (suc e) a h = absurd (omega (arith, h (omega arith)))

    top : s ≡ 2 ^ 24 → (2 ^ 23 + 0) * 2 ^ suc e ≡ s * 2 ^ e
    top a = ap (λ (x : ℕ). (2 ^ 23 + 0) * x) (pow-suc 2 e) ∙ omega arith ∙ ap (λ (x : ℕ). x * 2 ^ e) (sym a)

pub units-normal : (m : ℕ) → 1 ≤ m / 2 ^ 23 → units m ≡ (m % 2 ^ 23 + 2 ^ 23) * 2 ^ (m / 2 ^ 23 - 1)
units-normal m h =
    ap units {x = m} {y = (m / 2 ^ 23 - 1) * 2 ^ 23 + (m % 2 ^ 23 + 2 ^ 23)} (omega arith)
    ∙ units-at (m / 2 ^ 23 - 1) (m % 2 ^ 23 + 2 ^ 23) (λ _. omega arith) (omega arith)

-- ---- they rise

units-step : (m : ℕ) → units m < units (suc m)
units-step m = rise (m / 2 ^ 23 - 1) (m - (m / 2 ^ 23 - 1) * 2 ^ 23) (omega arith) (λ p. omega arith) (omega arith)
  where
    rise : (e s : ℕ) → m ≡ e * 2 ^ 23 + s → (0 < e → 2 ^ 23 ≤ s) → s < 2 ^ 24 → units m < units (suc m)
    rise e s w h l =
        let here : units m ≡ s * 2 ^ e = ap units w ∙ units-at e s h (omega arith) in
        let same : suc m ≡ e * 2 ^ 23 + (s + 1) = omega arith in
        let next : units (suc m) ≡ (s + 1) * 2 ^ e = ap units same ∙ units-at e (s + 1) (λ p. omega (arith, h p)) (omega arith) in
        rw (here, next) (mul-lt-mul_of_pos_right {m = s} {n = s + 1} (omega arith) (pow_pos e))

pub units-rise : (a b : ℕ) → a < b → units a < units b
units-rise a zero h = absurd (omega arith)
units-rise a (suc b) h =
    elim (ℕ_discrete a b) [ yes e ↦ rw e (units-step b) | no f ↦ lt_trans (units-rise a b (omega (arith, f))) (units-step b) ]

pub units_mono : (a b : ℕ) → a ≤ b → units a ≤ units b
units_mono a b h = elim (ℕ_discrete a b) [ yes e ↦ le_of_eq (ap units e) | no f ↦ le_of_lt (units-rise a b (omega (arith, f))) ]

-- ---- the cm of a float

-- They are near its exact value: twice the distance, in units of 2 ^ -149 cm, is at most 2 ^ 149, and where it is that, they are even.
pub cm-near : (b : ℕ) → Near (100 * units (magnitude b)) metre (nat_abs (cm b))
unfolding cm
cm-near b =
    let n = 100 * units (magnitude b) in
    subst (Near n metre) (sym (size_of (sign b) (nearest n metre))) (nearest-near n metre (pow_pos 149))
  where
    size_of : (minus : Bool) (k : ℕ) → nat_abs (centimetres minus k) ≡ k
    size_of false k = refl
    size_of true zero = refl
    size_of true (suc k) = refl

cm-mono : (a b : ℕ) → a ≤ b → nearest (100 * units a) metre ≤ nearest (100 * units b) metre
cm-mono a b h = nearest-mono (100 * units a) (100 * units b) metre (pow_pos 149) (mul-le-mul_left 100 (units_mono a b h))

-- below 2 ^ -9 m it is 0
pub cm-tiny : (m : ℕ) → m / 2 ^ 23 < 118 → 0 ≡ nearest (100 * units m) metre
unfolding units nearest
cm-tiny m h = le_antisymm zero-le (le_trans (cm-mono m (118 * 2 ^ 23 - 1) (omega arith)) (lit≤ tt))

-- else it is found by a shift
pub cm-shift : (m : ℕ) → 118 ≤ m / 2 ^ 23 → m / 2 ^ 23 ≤ 140 → nearest (100 * (m % 2 ^ 23 + 2 ^ 23)) (2 ^ (150 - m / 2 ^ 23)) ≡ nearest (100 * units m) metre
cm-shift m l h = go (m / 2 ^ 23 - 1) (150 - m / 2 ^ 23) (omega arith) (units-normal m (omega arith))
  where
    f : ℕ
    f = m % 2 ^ 23 + 2 ^ 23

    go : (e s : ℕ) → s + e ≡ 149 → units m ≡ f * 2 ^ e → nearest (100 * f) (2 ^ s) ≡ nearest (100 * units m) metre
    go e s w u =
        let top : 2 ^ s * 2 ^ e ≡ metre = sym (pow-add 2 s e) ∙ ap (λ (x : ℕ). 2 ^ x) w in
        let size : 100 * f * 2 ^ e ≡ 100 * units m = mul_assoc 100 f (2 ^ e) ∙ ap (λ (x : ℕ). 100 * x) (sym u) in
        sym (nearest-scale (100 * f) (2 ^ s) (2 ^ e) (pow_pos s) (pow_pos e)) ∙ ap₂ nearest size top

-- ---- the last floats within the bounds

pub plus-in : (m : ℕ) → m ≤ 1175232517 → nearest (100 * units m) metre ≤ 900000
unfolding units nearest
plus-in m h = le_trans (cm-mono m 1175232517 h) (lit≤ tt)

pub plus-out : (m : ℕ) → 1175232517 < m → 900000 < nearest (100 * units m) metre
unfolding units nearest
plus-out m h = lt_of_lt_of_le (lit< tt) (cm-mono 1175232518 m h)

pub minus-in : (m : ℕ) → m ≤ 1140457635 → nearest (100 * units m) metre ≤ 50000
unfolding units nearest
minus-in m h = le_trans (cm-mono m 1140457635 h) (lit≤ tt)

pub minus-out : (m : ℕ) → 1140457635 < m → 50000 < nearest (100 * units m) metre
unfolding units nearest
minus-out m h = lt_of_lt_of_le (lit< tt) (cm-mono 1140457636 m h)

-- ---- the doublings, as a loop finds them

pub doublings-is : (n e : ℕ) → 0 < e → e < 254 → 100 * 2 ^ (23 + e) ≤ n * metre → n * metre < 100 * 2 ^ (24 + e) → doublings n ≡ e
unfolding doublings
doublings-is n e p l low high =
    first-is (λ (j : ℕ). ltb (n * metre) (100 * 2 ^ (24 + j))) 254 e
    (λ j h. le-ltb (n * metre) (100 * 2 ^ (24 + j)) (le_trans (mul-le-mul_left 100 (pow_mono (omega arith))) low))
    l (lt-ltb (n * metre) (100 * 2 ^ (24 + e)) high)
