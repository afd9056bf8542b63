-- The float nearest a number of cm, as `nearest_magnitude` finds it: n cm are m / d times 2 ^ e units, and e is right when m / d has 24 binary
-- digits. Assumes nothing.
use mathlib.Core.Path.{◌≡◌, refl, sym, ap, ◌∙◌, subst}
use Prim.Native.Nat.{ℕ, zero, suc, ◌+◌, ◌-◌, ◌*◌, ◌/◌, ◌^◌, ◌≤◌, ◌<◌}
use native.Mathlib.Nat.{le_refl, le_trans, not-le_of_lt, mul_assoc, mul_comm, one-mul, pow-suc, mul-le-mul, mul-lt-mul_of_pos_right}
use native.Mathlib.Omega.{arith}
use native.Mathlib.Decide.{dec_le}
use lib.Dec.{lit≤, lit<}
use lib.Pow.{pow_pos, pow_mono, pow-add}
use Rattle.floats.specs.Floats.{metre}
use Rattle.floats.specs.Rounding.{nearest, nearest_magnitude}
use Rattle.floats.proofs.Nearest.{nearest-scale}
use Rattle.floats.proofs.Units.{doublings-is}

-- n cm are m hundredths of 2 ^ e units
pub record Raised (n m e : ℕ) : Type 0 where
  pub is : m * 2 ^ e ≡ n * metre
  pub some : 0 < m
  pub few : m ≤ 9223372036854775808
  pub down : e ≤ 149

-- a cm is more units than numbers of 32 bits reach
cm-large : (n : ℕ) → 0 < n → 4294967296 ≤ n * metre
cm-large n p = le_trans (lit≤ tt) (subst (λ (k : ℕ). k ≤ n * metre) (one-mul metre) (mul-le-mul p (le_refl metre)))

pub raised-start : (n : ℕ) → 0 < n → n ≤ 9223372036854775808 → Raised n n 149
raised-start n p l = record { is = refl; some = p; few = l; down = omega arith }

-- m is still small, so e has not come to 0
pub raised-pos : (n m e : ℕ) → 0 < n → m < 838860800 → Raised n m e → 0 < e
raised-pos n m zero p l r = absurd (go (n * metre) (cm-large n p) r.is)
  where
    go : (k : ℕ) → 4294967296 ≤ k → m * 1 ≡ k → ⊥
    go k h e = omega arith
raised-pos n m (suc e) p l r = omega arith

pub raised-more : (n m e : ℕ) → 0 < e → m < 838860800 → Raised n m e → Raised n (m * 2) (e - 1)
raised-more n m zero p l r = absurd (omega arith)
raised-more n m (suc e) p l r =
    let q : e ≡ suc e - 1 = omega arith in
    subst (Raised n (m * 2)) q
    (record {
      is = mul_assoc m 2 (2 ^ e) ∙ ap (λ (k : ℕ). m * k) (mul_comm 2 (2 ^ e) ∙ sym (pow-suc 2 e)) ∙ r.is;
      some = omega (arith, r.some);
      few = omega arith;
      down = omega (arith, r.down);
    })

-- n cm are m / d times 2 ^ e units
pub record Scaled (n m e₀ e d : ℕ) : Type 0 where
  pub raised : Raised n m e₀
  pub is : d * 2 ^ e₀ ≡ 100 * 2 ^ e
  pub some : 0 < d
  pub low : 8388608 * d ≤ m

pub scaled-start : (n m e : ℕ) → 838860800 ≤ m → Raised n m e → Scaled n m e e 100
scaled-start n m e l r = record { raised = r; is = refl; some = omega arith; low = omega arith }

pub scaled-more : (n m e₀ e d : ℕ) → d ≤ m / 16777216 → Scaled n m e₀ e d → Scaled n m e₀ (e + 1) (d * 2)
scaled-more n m e₀ e d l s =
    record {
      raised = s.raised;
      is = mul_assoc d 2 (2 ^ e₀) ∙ omega (arith, s.is, mul_comm 2 (2 ^ e₀), double, pow-add 2 e 1);
      some = omega (arith, s.some);
      low = omega arith;
    }
  where
    double : d * (2 * 2 ^ e₀) ≡ 2 * (d * 2 ^ e₀)
    double = sym (mul_assoc d 2 (2 ^ e₀)) ∙ ap (λ (k : ℕ). k * 2 ^ e₀) (mul_comm d 2) ∙ mul_assoc 2 d (2 ^ e₀)

-- the same in units, u being 2 ^ e and a the power that m and d are scaled by
units-low : (m d a u k : ℕ) → 8388608 * d ≤ m → d * a ≡ 100 * u → m * a ≡ k → 100 * (8388608 * u) ≤ k
units-low m d a u k l p q = let h : 8388608 * d * a ≤ m * a = mul-le-mul l (le_refl a) in omega (arith, h, mul_assoc 8388608 d a)

units-high : (m d a u k : ℕ) → 0 < a → m < 16777216 * d → d * a ≡ 100 * u → m * a ≡ k → k < 100 * (16777216 * u)
units-high m d a u k z l p q = let h : m * a < 16777216 * d * a = mul-lt-mul_of_pos_right l z in omega (arith, h, mul_assoc 16777216 d a)

module _ (n m e₀ e d : ℕ) (s : Scaled n m e₀ e d) where
  at_least : 100 * 2 ^ (23 + e) ≤ n * metre
  at_least =
      subst (λ (k : ℕ). 100 * k ≤ n * metre) (sym (pow-add 2 23 e))
      (units-low m d (2 ^ e₀) (2 ^ e) (n * metre) s.low s.is s.raised.is)

  below : m / 16777216 < d → n * metre < 100 * 2 ^ (24 + e)
  below l =
      subst (λ (k : ℕ). n * metre < 100 * k) (sym (pow-add 2 24 e))
      (units-high m d (2 ^ e₀) (2 ^ e) (n * metre) (pow_pos e₀) (omega arith) s.is s.raised.is)

  pub divisor-few : d ≤ 1099511627776
  divisor-few = omega (arith, s.low, s.raised.few)

  -- a number of 64 bits asks for few doublings
  pub doubled-few : e ≤ 189
  doubled-few = elim (dec_le e 189) [ yes h ↦ h | no f ↦ absurd (not-le_of_lt past (le_trans (pow_mono {i = 190} {j = e} (omega (arith, f))) most)) ]
    where
      some : (u k : ℕ) → k ≡ 100 * u → u ≤ k
      some u k p = omega arith

      most : 2 ^ e ≤ 2 ^ 189
      most = le_trans (some (2 ^ e) (d * 2 ^ e₀) s.is) (mul-le-mul divisor-few (pow_mono {i = e₀} {j = 149} s.raised.down))

      past : 2 ^ 189 < 2 ^ 190
      past = lit< tt

  pub magnitude-is : 0 < n → m / 16777216 < d → e * 8388608 + nearest m d ≡ nearest_magnitude n
  unfolding nearest_magnitude
  magnitude-is p h =
      ap (λ (k : ℕ). e * 8388608 + k) (sym (nearest-scale m d (2 ^ e₀) s.some (pow_pos e₀)) ∙ scaled)
      ∙ ap (λ (k : ℕ). k * 8388608 + nearest (n * metre) (100 * 2 ^ k)) (sym (doublings-is n e positive (omega (arith, doubled-few)) at_least (below h)))
    where
      positive : 0 < e
      positive = elim (dec_le 1 e) [ yes h ↦ h | no f ↦ absurd (zero-not (omega (arith, f))) ]
        where
          zero-not : e ≡ 0 → ⊥
          zero-not z = not-le_of_lt (subst (λ (k : ℕ). n * metre < 100 * 2 ^ (24 + k)) z (below h)) (le_trans (lit≤ tt) (cm-large n p))

      scaled : nearest (m * 2 ^ e₀) (d * 2 ^ e₀) ≡ nearest (n * metre) (100 * 2 ^ e)
      scaled = ap (λ (k : ℕ). nearest k (d * 2 ^ e₀)) s.raised.is ∙ ap (nearest (n * metre)) s.is
