-- No float is nearer to a number of cm than the one chosen, and a tie is even. It is the whole number s nearest the cm, in units that are doubled e times,
-- and every other float is a whole such unit away from it, or lies behind it as the number sees it. Assumes nothing.
use mathlib.Core.Path.{◌≡◌, refl, sym, ap, ◌∙◌}
use mathlib.Core.Bool.{Bool, true, false}
use Prim.Native.Nat.{ℕ, ◌+◌, ◌-◌, ◌*◌, ◌/◌, ◌%◌, ◌^◌, ◌≤◌, ◌<◌, zero-le}
use native.Mathlib.Nat.{mul-le-mul_left, mul-le-mul_right, mul-lt-mul_of_pos_left, mul_left_comm, add-mul}
use native.Mathlib.Nat.{le_of_eq, le_of_lt, le_trans, lt_of_le_of_lt, mod-eq_of_lt}
use native.Mathlib.Numerals.{add-one}
use native.Mathlib.Decide.{dec_lt, ℕ_discrete}
use native.Mathlib.Omega.{arith}
use borrow.Author.Tests.{ltb-true, ltb-false, lt-ltb, le-ltb, le-leb, lt-leb}
use lib.Dec.{ltb, lit<}
use lib.Pow.{pow_pos, pow-add}
use lib.IntN.{ℤ, pos, negsuc, nat_abs}
use lib.Signed.{lt_z}
use Rattle.laws.specs.First.{first_of}
use Rattle.laws.proofs.First.{first_holds, first-before, first-le}
use Rattle.floats.specs.Floats.{sign, magnitude, finite, units, metre}
use Rattle.floats.specs.Rounding.{nearest, Near, doublings, nearest_magnitude, distance, Closest, nearest_float}
use Rattle.floats.proofs.Nearest.{nearest-near, nearest-le, nearest-ge}
use Rattle.floats.proofs.Units.{units-at, units-rise, units_mono}

-- ---- numbers apart from the nearest

abbrev gap : ℕ → ℕ → ℕ
gap t u = (u - t) + (t - u)

-- u is a whole step d away from w, or behind w as t sees it
data Apart (t d w u : ℕ) : Type 0 where
  above : w + d ≤ u → Apart t d w u
  behind-above : t < w → w < u → Apart t d w u
  below : u + d ≤ w → Apart t d w u
  behind-below : w ≤ t → u < w → Apart t d w u

module _ (t d s u : ℕ) (near : Near t d s) where
  apart-least : Apart t d (s * d) u → gap t (s * d) ≤ gap t u
  apart-least (above h) = omega arith
  apart-least (behind-above h l) = omega arith
  apart-least (below h) = omega arith
  apart-least (behind-below h l) = omega arith

  apart-even : 0 < d → Apart t d (s * d) u → gap t u ≡ gap t (s * d) → s % 2 ≡ 0
  apart-even p (above h) e = near.even-above (omega arith)
  apart-even p (behind-above h l) e = absurd (omega arith)
  apart-even p (below h) e = near.even-below (omega arith)
  apart-even p (behind-below h l) e = absurd (omega arith)

-- ---- the float of e and s, for t hundredths of a unit

record Scaled (t e s : ℕ) : Type 0 where
  near : Near t (100 * 2 ^ e) s
  low : 0 < e → (2 ^ 23 * (100 * 2 ^ e) ≤ t) × (2 ^ 23 ≤ s)
  high : t < 2 ^ 24 * (100 * 2 ^ e)
  top : s ≤ 2 ^ 24
  few : e ≤ 190

module _ (t e s : ℕ) (c : Scaled t e s) where
  size : 100 * units (e * 2 ^ 23 + s) ≡ s * (100 * 2 ^ e)
  size = ap (λ (x : ℕ). 100 * x) (units-at e s (λ p. (c.low p).1) c.top) ∙ mul_left_comm 100 s (2 ^ e)

  size-more : s < 2 ^ 24 → 100 * units (e * 2 ^ 23 + (s + 1)) ≡ s * (100 * 2 ^ e) + 100 * 2 ^ e
  size-more h =
      ap (λ (x : ℕ). 100 * x) (units-at e (s + 1) (λ p. omega (arith, (c.low p).1)) (omega arith))
      ∙ mul_left_comm 100 (s + 1) (2 ^ e) ∙ omega (arith, add-mul s 1 (100 * 2 ^ e))

  apart_above : (k : ℕ) → e * 2 ^ 23 + s < k → Apart t (100 * 2 ^ e) (s * (100 * 2 ^ e)) (100 * units k)
  apart_above k h =
      elim (dec_lt s (2 ^ 24)) [
        | yes l ↦ above (le_trans (le_of_eq (sym (size-more l))) (mul-le-mul_left 100 (units_mono (e * 2 ^ 23 + (s + 1)) k (omega arith))))
        | no f ↦
            behind-above (last (omega arith)) (lt_of_le_of_lt (le_of_eq (sym size)) (mul-lt-mul_of_pos_left (units-rise (e * 2 ^ 23 + s) k h) (lit< tt)))
      ]
    where
      last : s ≡ 2 ^ 24 → t < s * (100 * 2 ^ e)
      last q = rw q c.high

  size_less : 0 < s → (0 < e → 2 ^ 23 < s) → 100 * units (e * 2 ^ 23 + (s - 1)) + 100 * 2 ^ e ≡ s * (100 * 2 ^ e)
  size_less h l =
      ap (λ (x : ℕ). 100 * x + 100 * 2 ^ e) (units-at e (s - 1) (λ p. omega (arith, l p)) (omega (arith, c.top)))
      ∙ omega (arith, mul_left_comm 100 (s - 1) (2 ^ e), add-mul (s - 1) 1 (100 * 2 ^ e), ap (λ (x : ℕ). x * (100 * 2 ^ e)) (whole h))
    where
      whole : 0 < s → s - 1 + 1 ≡ s
      whole h = omega arith

  apart_below : (k : ℕ) → k < e * 2 ^ 23 + s → Apart t (100 * 2 ^ e) (s * (100 * 2 ^ e)) (100 * units k)
  apart_below k h =
      elim (dec_lt 0 e) [
        | yes p ↦ elim (dec_lt (2 ^ 23) s) [ yes l ↦ step (omega arith) (λ _. l) | no f ↦ behind-below (first p (omega (arith, (c.low p).1))) less ]
        | no f ↦ step (omega arith) (λ p. absurd (f p))
      ]
    where
      step : 0 < s → (0 < e → 2 ^ 23 < s) → Apart t (100 * 2 ^ e) (s * (100 * 2 ^ e)) (100 * units k)
      step q l = below (omega (arith, size_less q l, mul-le-mul_left 100 (units_mono k (e * 2 ^ 23 + (s - 1)) (omega arith))))

      first : 0 < e → s ≡ 2 ^ 23 → s * (100 * 2 ^ e) ≤ t
      first p q = rw q (c.low p).0

      less : 100 * units k < s * (100 * 2 ^ e)
      less = omega (arith, size, mul-lt-mul_of_pos_left {k = 100} (units-rise k (e * 2 ^ 23 + s) h) (omega arith))

  apart : (k : ℕ) → (k ≡ e * 2 ^ 23 + s → ⊥) → Apart t (100 * 2 ^ e) (s * (100 * 2 ^ e)) (100 * units k)
  apart k f = elim (dec_lt k (e * 2 ^ 23 + s)) [ yes l ↦ apart_below k l | no g ↦ apart_above k (omega (arith, f, g)) ]

  closest-finite : (e * 2 ^ 23 + s) / 2 ^ 23 < 255
  closest-finite = omega arith

  closest-least : (k : ℕ) → gap t (100 * units (e * 2 ^ 23 + s)) ≤ gap t (100 * units k)
  closest-least k =
      elim (ℕ_discrete k (e * 2 ^ 23 + s)) [
        | yes q ↦ le_of_eq (ap (λ (x : ℕ). gap t (100 * units x)) (sym q))
        | no f ↦ rw size (apart-least t (100 * 2 ^ e) s (100 * units k) c.near (apart k f))
      ]

  closest-even : (k : ℕ) → (k ≡ e * 2 ^ 23 + s → ⊥) → gap t (100 * units k) ≡ gap t (100 * units (e * 2 ^ 23 + s)) → (e * 2 ^ 23 + s) % 2 ≡ 0
  closest-even k f q =
      let even : s % 2 ≡ 0 = apart-even t (100 * 2 ^ e) s (100 * units k) c.near (omega (arith, pow_pos e)) (apart k f) (rw size at q) in
      omega arith

-- ---- the float chosen

closest-scaled : (n e s : ℕ) → Scaled (n * metre) e s → Closest n (e * 2 ^ 23 + s)
unfolding distance finite
closest-scaled n e s c =
    record {
      is_finite = lt-ltb ((e * 2 ^ 23 + s) / 2 ^ 23) 255 (closest-finite (n * metre) e s c);
      least = λ k _. closest-least (n * metre) e s c k;
      even = λ k _ f q. closest-even (n * metre) e s c k f q;
    }

-- t lies between 2 ^ 23 and 2 ^ 24 of the doubled units, or is not doubled
scaled : (t e : ℕ) → (0 < e → 100 * 2 ^ (24 + (e - 1)) ≤ t) → t < 100 * 2 ^ (24 + e) → e ≤ 190 → Scaled t e (nearest t (100 * 2 ^ e))
scaled t e low high few =
    record {
      near = nearest-near t d pos-d;
      low = λ p. (from p, nearest-ge t d (2 ^ 23) pos-d (from p));
      high = upto;
      top = nearest-le t d (2 ^ 24) pos-d (le_of_lt upto);
      few = few;
    }
  where
    d : ℕ
    d = 100 * 2 ^ e

    pos-d : 0 < d
    pos-d = omega (arith, pow_pos e)

    upto : t < 2 ^ 24 * d
    upto = omega (arith, pow-add 2 24 e)

    from : 0 < e → 2 ^ 23 * d ≤ t
    from p = omega (arith, low p, pow-add 2 23 e, ap (λ (x : ℕ). 2 ^ x) {x = 24 + (e - 1)} {y = 23 + e} (omega arith))

pub magnitude-closest : (n : ℕ) → n ≤ 2 ^ 64 → Closest n (nearest_magnitude n)
unfolding nearest_magnitude doublings
magnitude-closest n h =
    closest-scaled n (doublings n) (nearest (n * metre) (100 * 2 ^ doublings n))
    (scaled (n * metre) (doublings n) from (ltb-true (n * metre) (100 * 2 ^ (24 + doublings n)) (first_holds fits 254 (lt_of_le_of_lt few (lit< tt)))) few)
  where
    fits : ℕ → Bool
    fits e = ltb (n * metre) (100 * 2 ^ (24 + e))

    few : first_of fits 254 ≤ 190
    few = first-le fits 254 190 (lit< tt) (lt-ltb (n * metre) (100 * 2 ^ 214) (lt_of_le_of_lt (mul-le-mul_right metre h) (lit< tt)))

    from : 0 < first_of fits 254 → 100 * 2 ^ (24 + (first_of fits 254 - 1)) ≤ n * metre
    from p = ltb-false (n * metre) (100 * 2 ^ (24 + (first_of fits 254 - 1))) (first-before fits 254 (first_of fits 254 - 1) (before (first_of fits 254) p))
      where
        before : (e : ℕ) → 0 < e → e - 1 < e
        before e p = omega arith

pub zero-magnitude : 0 ≡ nearest_magnitude 0
unfolding nearest_magnitude doublings nearest first_of
zero-magnitude = refl

-- ---- its sign

finite-small : (m : ℕ) → finite m ≡ true → m < 2 ^ 31
unfolding finite
finite-small m h = omega (arith, ltb-true (m / 2 ^ 23) 255 h)

pub magnitude-small : (n : ℕ) → n ≤ 2 ^ 64 → nearest_magnitude n < 2 ^ 31
magnitude-small n h = finite-small (nearest_magnitude n) (magnitude-closest n h).is_finite

plain-parts : (m : ℕ) → m < 2 ^ 31 → (sign m ≡ false) × (magnitude m ≡ m)
plain-parts m h = (lt-leb (2 ^ 31) m h, mod-eq_of_lt h)

minus-parts : (m : ℕ) → m < 2 ^ 31 → (sign (2 ^ 31 + m) ≡ true) × (magnitude (2 ^ 31 + m) ≡ m)
minus-parts m h = (le-leb (2 ^ 31) (2 ^ 31 + m) (omega arith), omega arith)

-- the float has the number's sign, and the magnitude that is closest to its size
pub float-closest : (z : ℤ) → nat_abs z ≤ 2 ^ 64 → (sign (nearest_float z) ≡ lt_z z (pos 0)) × (magnitude (nearest_float z) ≡ nearest_magnitude (nat_abs z))
unfolding nearest_float
float-closest (pos n) h =
    let parts = plain-parts (nearest_magnitude n) (magnitude-small n h) in
    (parts.0 ∙ sym (le-ltb n 0 zero-le), parts.1)
float-closest (negsuc n) h =
    let parts = minus-parts (nearest_magnitude (n + 1)) (magnitude-small (n + 1) (rw add-one h)) in
    (parts.0, parts.1 ∙ ap nearest_magnitude (add-one n))
