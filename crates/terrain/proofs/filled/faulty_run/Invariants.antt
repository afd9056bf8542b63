-- What the loops of `terrain::filled::faulty_run` keep. Assumes nothing.
use Rattle.terrain.specs.InnerFlood.{Faulty}
use Rattle.terrain.proofs.filled.faulty_run.Given as goal

abbrev pub invariant-loop-x : goal.invariant-loop-x
invariant-loop-x l = Faulty l.ground.rows l.ground.columns l.ground.elevation.now l.level l.from l.x l.sum
