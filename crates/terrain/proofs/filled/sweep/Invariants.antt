-- What the loops of `terrain::filled::sweep` keep. Assumes nothing.
use Rattle.terrain.specs.InnerFlood.{FillSweeping}
use Rattle.terrain.proofs.filled.sweep.Given as goal

abbrev pub invariant-loop-x : goal.invariant-loop-x
invariant-loop-x l = FillSweeping l.ground.rows l.ground.columns l.ground.elevation.now l.initial.level l.level l.x l.lowered
