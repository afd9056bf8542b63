-- The bounds of an exponent, how large a factor can be, and the two cases of a cell. Assumes nothing.
use mathlib.Core.Path.{◌≡◌, refl}
use mathlib.Core.Bool.{Bool, true, false, cond}
use Prim.Native.Nat.{ℕ, ◌*◌, ◌≤◌, ◌<◌}
use native.Mathlib.Nat.{mul-le-mul}
use native.Mathlib.Omega.{arith}
use borrow.Author.Tests.{lt-ltb, le-ltb}
use lib.Dec.{leb, ltb}
use Rattle.settings.specs.declared.Formula.{Formula}
use Rattle.settings.specs.declared.Formula.TheVariants.{Older, Newer}
use Rattle.factor.specs.Exponent.{exponent_of}
use Rattle.factor.specs.LengthFactor.{millimetres, greatest_mm, reached, length_factor}
use Rattle.factor.specs.Steepness.{sine_of, older_factor, is_steep, newer_factor, counted, steepness_factor}
use Rattle.factor.specs.Cell.{too_long, factor_of}
use Rattle.factor.specs.Grid.{no_data_factor}
use Rattle.laws.proofs.Greatest.{greatest-within}
use Rattle.factor.proofs.Sines.{sine-within}

pub exponent-in : (c q : ℕ) → (2 ≤ exponent_of c q) × (exponent_of c q ≤ 5)
unfolding exponent_of
exponent-in c q = go (leb (c * c) (200 * q)) (ltb (9 * (c * c)) (5000 * q)) (leb (c * c) (5000 * q))
  where
    go : (a b d : Bool) → (2 ≤ cond a 5 (cond b 4 (cond d 3 2))) × (cond a 5 (cond b 4 (cond d 3 2)) ≤ 5)
    go true b d = (omega arith, omega arith)
    go false true d = (omega arith, omega arith)
    go false false true = (omega arith, omega arith)
    go false false false = (omega arith, omega arith)

pub length-factor-within : (k mm : ℕ) → length_factor k mm ≤ 1000
unfolding length_factor
length-factor-within k mm = greatest-within (reached k mm) 1000

pub older-within : (u : ℕ) → u ≤ 1000 → older_factor u ≤ 70035
unfolding older_factor
older-within u h = omega (arith, mul-le-mul h h)

pub newer-within : (steep : Bool) (u : ℕ) → u ≤ 1000 → newer_factor steep u ≤ 70035
unfolding newer_factor
newer-within true u h = omega arith
newer-within false u h = omega arith

pub counted-within : (u : ℕ) → u ≤ 1000 → counted u ≤ 1000
unfolding counted
counted-within u h = omega arith

pub steepness-within : (formula : Formula) (c q : ℕ) → steepness_factor formula c q ≤ 70035
unfolding steepness_factor
steepness-within Older c q = older-within (sine_of c q) (sine-within c q)
steepness-within Newer c q = newer-within (is_steep c q) (counted (sine_of c q)) (counted-within (sine_of c q) (sine-within c q))

-- LS fits 32 bits, and is neither of the two numbers that stand for none
pub product-within : (formula : Formula) (k mm c q : ℕ) → length_factor k mm * steepness_factor formula c q ≤ 70035000
product-within formula k mm c q = omega (arith, mul-le-mul (length-factor-within k mm) (steepness-within formula c q))

module _ (formula : Formula) (c q len : ℕ) where
  pub factor-long : greatest_mm < millimetres c len → too_long ≡ factor_of formula c q len
  unfolding factor_of
  factor-long h = rw (lt-ltb greatest_mm (millimetres c len) h)

  pub factor-short : {k t s : ℕ} → millimetres c len ≤ greatest_mm → k ≡ exponent_of c q → t ≡ length_factor k (millimetres c len)
      → s ≡ steepness_factor formula c q → t * s ≡ factor_of formula c q len
  unfolding factor_of
  factor-short h e f g = rw (le-ltb greatest_mm (millimetres c len) h, f, e, g)

  -- up to 304,800 mm LS is no more than 700.35, by either formula
  pub factor-fits : millimetres c len ≤ greatest_mm → factor_of formula c q len ≤ 70035000
  factor-fits h = omega (arith, factor-short {k = exponent_of c q} h refl refl refl, product-within formula (exponent_of c q) (millimetres c len) c q)

  -- a valid cell's LS is never NoData's
  pub factor-valid : factor_of formula c q len < no_data_factor
  unfolding factor_of
  factor-valid = go (ltb greatest_mm (millimetres c len))
    where
      go : (b : Bool) → cond b too_long (length_factor (exponent_of c q) (millimetres c len) * steepness_factor formula c q) < no_data_factor
      go true = omega arith
      go false = omega (arith, product-within formula (exponent_of c q) (millimetres c len) c q)
