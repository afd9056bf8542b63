-- `terrain::queue::Lists::drain` meets its contract. Assumes nothing.
use Rattle.terrain.proofs.InnerInterior.{ready-sized}
use Rattle.terrain.proofs.InnerQueueing.{to-then, to-taken}
use Rattle.std.proofs.Common.{◌∙◌, arith}
use Rattle.terrain.proofs.queue.Lists.drain.Goals as goal

pub turns-preserved : goal.turns-preserved
turns-preserved c = (
  to-then c.turns.invariant.0 (to-taken (ready-sized c.args.ground.ready) (c.turns.invariant.0.flooded.long ∙ c.requires.0) c.turns.invariant.0.waiting c.in-Some.ensures (omega (arith, c.turns.invariant.1, c.requires.1, c.requires.2)) c.spread.ensures),
  c.turns.invariant.1,
)
