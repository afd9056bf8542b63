-- What the loops of `terrain::queue::Lists::reach_rims` keep. Assumes nothing.
use Rattle.terrain.specs.InnerFlood.{Rimming}
use Rattle.terrain.proofs.queue.Lists.reach_rims.Given as goal

abbrev pub invariant-loop-x : goal.invariant-loop-x
invariant-loop-x l = Rimming l.ground.columns l.initial.words l.words
