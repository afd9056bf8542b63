-- What the loops of `terrain::queue::Lists::spread` keep. Assumes nothing.
use Rattle.terrain.specs.InnerFlood.{Queueing}
use Rattle.terrain.specs.InnerCells.{Around}
use Rattle.terrain.proofs.queue.Lists.spread.Given as goal

abbrev pub invariant-loop-k : goal.invariant-loop-k
invariant-loop-k l = Queueing (Around l.ground.columns l.x) l.initial.words l.words
