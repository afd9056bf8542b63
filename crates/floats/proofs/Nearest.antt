-- Laws of rounding to the nearest whole number: `Near` determines it, it rises with the number, and the ways in which code finds it. Assumes nothing.
use mathlib.Core.Path.{◌≡◌, refl, sym, ◌∙◌}
use mathlib.Core.Bool.{Bool, true, false, cond}
use Prim.Native.Nat.{ℕ, zero, suc, ◌+◌, ◌-◌, ◌*◌, ◌/◌, ◌%◌, ◌≤◌, ◌<◌}
use native.Mathlib.Nat.{mod-lt, div-add-mod', mul-pos, mul_assoc, add-mul, mul-le-mul_right, le_antisymm, eq_of_mul-eq-mul_right, div-eq_of_lt-le}
use native.Mathlib.Decide.{dec_lt, dec_le, ℕ_discrete}
use native.Mathlib.Omega.{arith}
use borrow.Author.Tests.{ltb-true, ltb-false}
use lib.Dec.{ltb}
use Rattle.floats.specs.Rounding.{nearest, Near}

-- ---- a number near n / d is unique, and rises with n

pub near-order : (m n d a b : ℕ) → 0 < d → m ≤ n → Near m d a → Near n d b → a ≤ b
near-order m n d a b p h s t = elim (dec_le a b) [ yes l ↦ l | no f ↦ absurd (go (omega (arith, f))) ]
  where
    go : b < a → ⊥
    go l =
        let one : b * d + d ≤ a * d = omega (arith, add-mul b 1 d, mul-le-mul_right {m = b + 1} {n = a} d (omega arith)) in
        let low : b % 2 ≡ 0 = t.even-above (omega (arith, s.below, t.above)) in
        let high : a % 2 ≡ 0 = s.even-below (omega (arith, s.below, t.above)) in
        elim (ℕ_discrete a (b + 1)) [
          | yes e ↦ omega arith
          | no f ↦ omega (arith, s.below, t.above, add-mul b 2 d, mul-le-mul_right {m = b + 2} {n = a} d (omega (arith, f)))
        ]

-- ---- the nearest number, by quotient and remainder

module _ (n d q r : ℕ) (whole : q * d + r ≡ n) (part : r < d) where
  near_down : 2 * r < d → Near n d q
  near_down h =
      record {
        below = omega arith;
        above = omega arith;
        even-below = λ e. absurd (omega arith);
        even-above = λ e. absurd (omega arith);
      }

  near_up : d < 2 * r → Near n d (q + 1)
  near_up h =
      let next = add-mul q 1 d in
      record {
        below = omega arith;
        above = omega arith;
        even-below = λ e. absurd (omega arith);
        even-above = λ e. absurd (omega arith);
      }

  near-half : 2 * r ≡ d → Near n d (q + q % 2)
  near-half h = go (q % 2) refl
    where
      go : (o : ℕ) → q % 2 ≡ o → Near n d (q + o)
      go zero e = record { below = omega arith; above = omega arith; even-below = λ _. omega arith; even-above = λ _. omega arith }
      go (suc zero) e =
          let next = add-mul q 1 d in
          record { below = omega arith; above = omega arith; even-below = λ _. omega arith; even-above = λ _. omega arith }
      go (suc (suc o)) e = absurd (omega arith)

pub nearest-near : (n d : ℕ) → 0 < d → Near n d (nearest n d)
unfolding nearest
nearest-near n d p = go (ltb (2 * (n % d)) d) refl (ltb d (2 * (n % d))) refl
  where
    whole : n / d * d + n % d ≡ n
    whole = div-add-mod' n d

    go : (a : Bool) → ltb (2 * (n % d)) d ≡ a → (b : Bool) → ltb d (2 * (n % d)) ≡ b → Near n d (cond a (n / d) (cond b (n / d + 1) (n / d + n / d % 2)))
    go true s b t = near_down n d (n / d) (n % d) whole (mod-lt n p) (ltb-true (2 * (n % d)) d s)
    go false s true t = near_up n d (n / d) (n % d) whole (mod-lt n p) (ltb-true d (2 * (n % d)) t)
    go false s false t =
        near-half n d (n / d) (n % d) whole (mod-lt n p) (le_antisymm (ltb-false d (2 * (n % d)) t) (ltb-false (2 * (n % d)) d s))

pub near-nearest : (n d c : ℕ) → 0 < d → Near n d c → c ≡ nearest n d
near-nearest n d c p s =
    let t = nearest-near n d p in
    le_antisymm (near-order n n d c (nearest n d) p (omega arith) s t) (near-order n n d (nearest n d) c p (omega arith) t s)

-- ---- as division finds it

pub nearest-down : (n d : ℕ) → 0 < d → n % d < d - n % d → n / d ≡ nearest n d
nearest-down n d p h = near-nearest n d (n / d) p (near_down n d (n / d) (n % d) (div-add-mod' n d) (mod-lt n p) (omega arith))

pub nearest-up : (n d : ℕ) → 0 < d → d - n % d < n % d → n / d + 1 ≡ nearest n d
nearest-up n d p h = near-nearest n d (n / d + 1) p (near_up n d (n / d) (n % d) (div-add-mod' n d) (mod-lt n p) (omega (arith, mod-lt n p)))

pub nearest-half : (n d : ℕ) → 0 < d → n % d ≡ d - n % d → n / d + n / d % 2 ≡ nearest n d
nearest-half n d p h = near-nearest n d (n / d + n / d % 2) p (near-half n d (n / d) (n % d) (div-add-mod' n d) (mod-lt n p) (omega (arith, mod-lt n p)))

-- ---- as a shift finds it: half less one is added, and one more if the quotient is odd

module _ (n h q r : ℕ) (whole : q * (2 * h) + r ≡ n) (part : r < 2 * h) where
  shifted : (o c : ℕ) → c * (2 * h) ≤ n + (h - 1) + o → n + (h - 1) + o < c * (2 * h) + 2 * h → Near n (2 * h) c →
      nearest n (2 * h) ≡ (n + (h - 1) + o) / (2 * h)
  shifted o c l u s = sym (div-eq_of_lt-le {k = c} (2 * h) l (omega (arith, add-mul c 1 (2 * h))) ∙ near-nearest n (2 * h) c (omega arith) s)

  shifted_half : (o : ℕ) → q % 2 ≡ o → r ≡ h → nearest n (2 * h) ≡ (n + (h - 1) + o) / (2 * h)
  shifted_half o e m = shifted o (q + o) (bound o e).0 (bound o e).1 (rw e at (near-half n (2 * h) q r whole part (omega arith)))
    where
      bound : (o : ℕ) → q % 2 ≡ o → ((q + o) * (2 * h) ≤ n + (h - 1) + o) × (n + (h - 1) + o < (q + o) * (2 * h) + 2 * h)
      bound zero e = (omega arith, omega arith)
      bound (suc zero) e = let next = add-mul q 1 (2 * h) in (omega arith, omega arith)
      bound (suc (suc o)) e = absurd (omega arith)

  by-shift : nearest n (2 * h) ≡ (n + (h - 1) + q % 2) / (2 * h)
  by-shift =
      let next = add-mul q 1 (2 * h) in
      elim (dec_lt r h) [
        | yes l ↦ shifted (q % 2) q (omega arith) (omega arith) (near_down n (2 * h) q r whole part (omega arith))
        | no f ↦
            elim (dec_lt h r) [
              | yes l ↦ shifted (q % 2) (q + 1) (omega arith) (omega arith) (near_up n (2 * h) q r whole part (omega arith))
              | no g ↦ shifted_half (q % 2) refl (omega (arith, f, g))
            ]
      ]

pub nearest-shift : (n h : ℕ) → 0 < h → nearest n (2 * h) ≡ (n + (h - 1) + n / (2 * h) % 2) / (2 * h)
nearest-shift n h p = by-shift n h (n / (2 * h)) (n % (2 * h)) (div-add-mod' n (2 * h)) (mod-lt n (omega arith))

-- ---- bounds

pub nearest-mono : (m n d : ℕ) → 0 < d → m ≤ n → nearest m d ≤ nearest n d
nearest-mono m n d p h = near-order m n d (nearest m d) (nearest n d) p h (nearest-near m d p) (nearest-near n d p)

exact : (b d : ℕ) → 0 < d → Near (b * d) d b
exact b d p = near_down (b * d) d b 0 (omega arith) p (omega arith)

pub nearest-le : (n d b : ℕ) → 0 < d → n ≤ b * d → nearest n d ≤ b
nearest-le n d b p h = near-order n (b * d) d (nearest n d) b p h (nearest-near n d p) (exact b d p)

pub nearest-ge : (n d b : ℕ) → 0 < d → b * d ≤ n → b ≤ nearest n d
nearest-ge n d b p h = near-order (b * d) n d b (nearest n d) p h (exact b d p) (nearest-near n d p)

pub nearest-small : (n d : ℕ) → 2 * n < d → nearest n d ≡ 0
nearest-small n d h = sym (near-nearest n d 0 (omega arith) (near_down n d 0 n (omega arith) (omega arith) h))

-- ---- one scale for both

pub nearest-scale : (n d k : ℕ) → 0 < d → 0 < k → nearest (n * k) (d * k) ≡ nearest n d
nearest-scale n d k p q = sym (near-nearest (n * k) (d * k) (nearest n d) (mul-pos p q) (scaled (nearest n d) (nearest-near n d p)))
  where
    left : (c : ℕ) → 2 * (c * d) * k ≡ 2 * (c * (d * k))
    left c = omega (arith, mul_assoc 2 (c * d) k, mul_assoc c d k)

    right : (a : ℕ) → (2 * a + d) * k ≡ 2 * (a * k) + d * k
    right a = omega (arith, add-mul (2 * a) d k, mul_assoc 2 a k)

    scaled : (c : ℕ) → Near n d c → Near (n * k) (d * k) c
    scaled c s =
        let l = left c in
        let r = right n in
        let u : (2 * (c * d) + d) * k ≡ 2 * (c * (d * k)) + d * k = omega (arith, add-mul (2 * (c * d)) d k) in
        let v = mul_assoc 2 n k in
        record {
          below = omega (arith, mul-le-mul_right k s.below);
          above = omega (arith, mul-le-mul_right k s.above);
          even-below = λ e. s.even-below (eq_of_mul-eq-mul_right k q (2 * (c * d)) (2 * n + d) (omega arith));
          even-above = λ e. s.even-above (eq_of_mul-eq-mul_right k q (2 * n) (2 * (c * d) + d) (omega arith));
        }
