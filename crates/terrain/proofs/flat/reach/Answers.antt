-- `terrain::flat::reach` meets its contract. Assumes nothing.
use Rattle.std.proofs.Common.{arith}
use Rattle.terrain.specs.InnerFlats.{near, lowered}
use Rattle.terrain.proofs.flat.reach.Goals as goal

pub returns-then-steps-y : goal.returns-then-steps-y
returns-then-steps-y c = near c.if-steps-y.true

pub returns : goal.returns
returns c = lowered (omega (arith, c.if-steps-y.false)) c.put.ensures
