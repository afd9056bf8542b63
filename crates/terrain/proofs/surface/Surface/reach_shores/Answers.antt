-- `terrain::surface::Surface::reach_shores` meets its contract. Assumes nothing.
use Rattle.std.proofs.Common.{arith}
use Rattle.terrain.proofs.InnerWading.{shores-none, shores-all}
use Rattle.terrain.proofs.surface.Surface.reach_shores.Goals as goal

pub loop-x-init : goal.loop-x-init
loop-x-init c = shores-none c.args.self.levels c.args.queue.now c.requires

pub returns : goal.returns
returns c = shores-all c.args.self.levels c.loop-x.invariant (omega (arith, c.loop-x.invariant.kept.long))
