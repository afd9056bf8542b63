-- RULES 6: what one valid cell's LS is, by the steepness formula, the cell side c, its steepness q and its length. Assumes nothing.
use Rattle.std.specs.Prelude.{ℕ, ◌*◌, cond, ltb}
use Rattle.settings.specs.declared.Formula.{Formula}
use Rattle.factor.specs.Exponent.{exponent_of}
use Rattle.factor.specs.LengthFactor.{millimetres, greatest_mm, length_factor}
use Rattle.factor.specs.Steepness.{steepness_factor}

-- LS: 4,294,967,294 too long
abbrev pub too_long : ℕ
too_long = 4294967294

-- "LS = t·S", in hundred-thousandths, up to 304,800 mm; above: too long
unfoldable pub factor_of : Formula → ℕ → ℕ → ℕ → ℕ
unfolding exponent_of length_factor steepness_factor
factor_of formula c q length =
    let mm = millimetres c length in
    cond (ltb greatest_mm mm) too_long (length_factor (exponent_of c q) mm * steepness_factor formula c q)
