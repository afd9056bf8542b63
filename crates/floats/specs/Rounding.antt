-- RULES 11.2: rounding to the nearest, of halves to the even one. Assumes nothing.
use Rattle.std.specs.Prelude.{ℕ, ◌+◌, ◌-◌, ◌*◌, ◌/◌, ◌%◌, ◌^◌, ◌≤◌, ◌≡◌, true, cond, ltb, ℤ, pos, negsuc}
use Rattle.laws.specs.First.{first_of}
use Rattle.text.specs.Numbers.{centimetres}
use Rattle.floats.specs.Floats.{sign, magnitude, finite, units, metre}

-- the whole number nearest n / d, halfway to the even one
unfoldable pub nearest : ℕ → ℕ → ℕ
nearest n d =
    let q = n / d in
    let r = n % d in
    cond (ltb (2 * r) d) q (cond (ltb d (2 * r)) (q + 1) (q + q % 2))

-- c is it: twice its distance from n / d, times d, is at most d, and where it is d, c is even (the laws `nearest-near` and `near-nearest`)
pub record Near (n d c : ℕ) : Type 0 where
  pub below : 2 * (c * d) ≤ 2 * n + d
  pub above : 2 * n ≤ 2 * (c * d) + d
  pub even-below : 2 * (c * d) ≡ 2 * n + d → c % 2 ≡ 0
  pub even-above : 2 * n ≡ 2 * (c * d) + d → c % 2 ≡ 0

-- Each height becomes the whole centimetre nearest to the float's exact value in metres, halfway cases to the even one. Minus zero is 0.
unfoldable pub cm : ℕ → ℤ
unfolding units nearest
cm b = centimetres (sign b) (nearest (100 * units (magnitude b)) metre)

-- ---- the float nearest a number of cm

-- how often the units are doubled there: the first e for which n cm are less than 2 ^ 24 times 2 ^ e units
unfoldable pub doublings : ℕ → ℕ
unfolding first_of
doublings n = first_of (λ e. ltb (n * metre) (100 * 2 ^ (24 + e))) 254

-- the magnitude of the float nearest n cm, a tie to the even one
unfoldable pub nearest_magnitude : ℕ → ℕ
unfolding doublings nearest
nearest_magnitude n = let e = doublings n in e * 2 ^ 23 + nearest (n * metre) (100 * 2 ^ e)

-- how far the float of magnitude m is from n cm, in hundredths of a unit
unfoldable pub distance : ℕ → ℕ → ℕ
unfolding units
distance n m = (100 * units m - n * metre) + (n * metre - 100 * units m)

-- m is it: no other float is nearer, and where another is as near, m is even (the law `magnitude-closest`)
pub record Closest (n m : ℕ) : Type 0 where
  pub is_finite : finite m ≡ true
  pub least : (k : ℕ) → finite k ≡ true → distance n m ≤ distance n k
  pub even : (k : ℕ) → finite k ≡ true → (k ≡ m → ⊥) → distance n k ≡ distance n m → m % 2 ≡ 0

-- the float nearest a number of cm
unfoldable pub nearest_float : ℤ → ℕ
unfolding nearest_magnitude
nearest_float (pos n) = nearest_magnitude n
nearest_float (negsuc n) = 2 ^ 31 + nearest_magnitude (n + 1)
