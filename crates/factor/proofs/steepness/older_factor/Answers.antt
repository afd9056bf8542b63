-- `factor::steepness::older_factor` meets its contract. Assumes nothing.
use borrow.Author.Rules.{rules}
use Rattle.factor.specs.Steepness.{older_factor}
use Rattle.factor.proofs.steepness.older_factor.Goals as goal

pub returns : goal.returns
unfolding older_factor
returns c = search rules
