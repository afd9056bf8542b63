-- `factor::slope::Slope::is_at_least` meets its contract. Assumes nothing.
use native.Mathlib.Omega.{arith}
use Rattle.factor.specs.Percent.{at_least}
use Rattle.factor.proofs.Percents.{percent-fits}
use Rattle.factor.proofs.slope.Slope.is_at_least.Goals as goal

pub overflow_mul-result-2 : goal.overflow_mul-result-2
overflow_mul-result-2 c = let p = c.requires in rw c.from-side.ensures (omega (arith, percent-fits _ _ p.1 p.0.side-small))

pub returns : goal.returns
unfolding at_least
returns c = rw c.from-side.ensures
