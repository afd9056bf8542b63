-- `factor::inflow::left_by` meets its contract. Assumes nothing.
use Rattle.factor.specs.Inner.{left_by}
use Rattle.factor.proofs.inflow.left_by.Goals as goal

pub returns : goal.returns
unfolding left_by
returns c = rw (c.from-rest.ensures, c.saturating_sub.ensures)
