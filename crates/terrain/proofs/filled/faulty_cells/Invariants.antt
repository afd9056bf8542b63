-- What the loops of `terrain::filled::faulty_cells` keep, and what falls. Assumes nothing.
use Rattle.std.proofs.Common.{◌-◌, ◌≤◌, length}
use Rattle.terrain.specs.InnerFlood.{Faulty}
use Rattle.terrain.proofs.filled.faulty_cells.Given as goal

abbrev pub invariant-loop-x : goal.invariant-loop-x
invariant-loop-x l = (l.x ≤ length l.level) × Faulty l.ground.rows l.ground.columns l.ground.elevation.now l.level 0 l.x l.sum

abbrev pub decreases-loop-x : goal.decreases-loop-x
decreases-loop-x l = length l.level - l.x
