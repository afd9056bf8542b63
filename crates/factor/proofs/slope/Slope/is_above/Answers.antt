-- `factor::slope::Slope::is_above` meets its contract. Assumes nothing.
use native.Mathlib.Omega.{arith}
use Rattle.factor.specs.Percent.{above}
use Rattle.factor.proofs.Percents.{percent-fits}
use Rattle.factor.proofs.slope.Slope.is_above.Goals as goal

pub overflow_mul-result-2 : goal.overflow_mul-result-2
overflow_mul-result-2 c = let p = c.requires in rw c.from-side.ensures (omega (arith, percent-fits _ _ p.1 p.0.side-small))

pub returns : goal.returns
unfolding above
returns c = rw c.from-side.ensures
