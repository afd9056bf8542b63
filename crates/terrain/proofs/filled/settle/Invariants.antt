-- What the loop of `terrain::filled::settle` keeps, and what falls. Assumes nothing.
use Rattle.laws.specs.Lists.{total}
use Rattle.terrain.specs.InnerFlood.{FillKept}
use Rattle.terrain.proofs.filled.settle.Given as goal

abbrev pub invariant-loop : goal.invariant-loop
invariant-loop l = FillKept l.ground.rows l.ground.columns l.ground.elevation.now l.level

abbrev pub decreases-loop : goal.decreases-loop
decreases-loop l = total l.level
