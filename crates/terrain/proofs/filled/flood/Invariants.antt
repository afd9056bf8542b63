-- What the loops of `terrain::filled::flood` keep. Assumes nothing.
use Rattle.terrain.specs.InnerFlood.{FloodedTo, level_in}
use Rattle.terrain.proofs.filled.flood.Given as goal

abbrev pub invariant-loop-band : goal.invariant-loop-band
invariant-loop-band l = FloodedTo l.ground.rows l.ground.columns l.initial.words l.words (level_in l.band 1024)
