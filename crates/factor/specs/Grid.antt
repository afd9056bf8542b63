-- RULES 6: the LS grid of a map, over filled levels, a list of directions and slope lengths. Assumes nothing.
use Rattle.std.specs.Prelude.{List, ℕ, ◌*◌, get_or}
use Rattle.std.proofs.Math.Bool.{cond}
use Rattle.laws.specs.Lists.{tab}
use Rattle.settings.specs.declared.Formula.{Formula}
use Rattle.settings.specs.declared.Rules.{Rules}
use Rattle.terrain.specs.Trail.{mapped_at}
use Rattle.factor.specs.Slope.{steepness_at}
use Rattle.factor.specs.Cell.{factor_of}

-- LS: 4,294,967,295 NoData
abbrev pub no_data_factor : ℕ
no_data_factor = 4294967295

module _ (rows cols side : ℕ) (formula : Formula) (lv dir lengths : List ℕ) where
  -- LS of the cell x: that of its steepness q and its length, by the chosen formula
  unfoldable pub factor_at : ℕ → ℕ
  unfolding mapped_at steepness_at factor_of
  factor_at x = cond (mapped_at rows cols dir x) (factor_of formula side (steepness_at rows cols lv dir x) (get_or lengths x 0)) no_data_factor

-- LS of every cell, by the formula of its own rules
unfoldable pub factors_of : ℕ → ℕ → ℕ → (ℕ → Rules) → List ℕ → List ℕ → List ℕ → List ℕ
unfolding tab factor_at
factors_of rows cols side rules lv dir lengths = tab (rows * cols) (λ x. factor_at rows cols side (rules x).formula lv dir lengths x)
