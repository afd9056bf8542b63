-- What the loops of `terrain::downhill::follow` keep, and what falls. Assumes nothing.
use Rattle.std.proofs.Common.{◌+◌, ◌-◌, ◌*◌, ◌<◌}
use Rattle.terrain.specs.InnerDownhill.{Peeled}
use Rattle.terrain.proofs.downhill.follow.Given as goal

abbrev pub invariant-loop-place : goal.invariant-loop-place
invariant-loop-place l = Peeled l.drawing.rows l.drawing.columns l.drawing.direction.now l.order l.waiting l.at (l.start + 1) l.x × (l.x < l.drawing.rows * l.drawing.columns)

abbrev pub decreases-loop-place : goal.decreases-loop-place
decreases-loop-place l = l.drawing.rows * l.drawing.columns - l.at
