-- `factor::inflow::is_cut` meets its contract. Assumes nothing.
use Rattle.factor.proofs.Lengths.{cut-is}
use Rattle.factor.proofs.inflow.is_cut.Goals as goal

pub returns : goal.returns
returns c = λ n. cut-is n c.args.q c.args.p
