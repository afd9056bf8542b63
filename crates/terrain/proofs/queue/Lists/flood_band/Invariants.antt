-- What the loops of `terrain::queue::Lists::flood_band` keep. Assumes nothing.
use Rattle.terrain.specs.InnerFlood.{FloodedTo, level_in}
use Rattle.terrain.proofs.queue.Lists.flood_band.Given as goal

abbrev pub invariant-loop-list : goal.invariant-loop-list
invariant-loop-list l = FloodedTo l.ground.rows l.ground.columns l.initial.words l.words (level_in l.band l.list)
