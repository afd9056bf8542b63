-- `terrain::queue::Lists::spread` meets its contract. Assumes nothing.
use Rattle.std.proofs.Common.{subst, sym, arith}
use Rattle.terrain.specs.InnerCells.{Around}
use Rattle.terrain.proofs.InnerQueueing.{queueing-then, queueing-as}
use Rattle.terrain.proofs.queue.Lists.spread.Goals as goal

pub loop-k-preserved : goal.loop-k-preserved
loop-k-preserved c =
    let g = c.args.ground in
    queueing-then c.loop-k.invariant
    (queueing-as c.reach.ensures (λ z h e. subst (Around g.columns c.args.x) (sym e) (c.around.ensures (omega (arith, e, h, c.loop-k.auto.words, c.requires.0, g.ready.small)))))
