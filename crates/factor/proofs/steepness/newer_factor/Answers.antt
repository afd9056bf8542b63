-- `factor::steepness::newer_factor` meets its contract. Assumes nothing.
use Rattle.factor.specs.Steepness.{newer_factor}
use Rattle.factor.proofs.steepness.newer_factor.Goals as goal

pub returns-then-steep : goal.returns-then-steep
unfolding newer_factor
returns-then-steep c = rw c.if-steep.true

pub returns : goal.returns
unfolding newer_factor
returns c = rw c.if-steep.false
