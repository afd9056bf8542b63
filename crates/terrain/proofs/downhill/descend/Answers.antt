-- `terrain::downhill::descend` meets its contract. Assumes nothing.
use Rattle.terrain.proofs.InnerDescending.{await-peeled, peeled-all}
use Rattle.std.proofs.Common.{arith}
use Rattle.terrain.proofs.downhill.descend.Goals as goal

pub loop-x-init : goal.loop-x-init
loop-x-init c = await-peeled c.requires.0.drawn c.requires.2 c.await_all.ensures

pub returns : goal.returns
returns c = peeled-all c.requires.0 (omega (arith, c.loop-x.invariant.wide)) c.loop-x.invariant
