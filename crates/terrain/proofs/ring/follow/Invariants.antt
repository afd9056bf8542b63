-- What the loops of `terrain::ring::follow` keep, and what falls. Assumes nothing.
use Rattle.std.proofs.Common.{◌+◌, ◌-◌, ◌*◌, ◌<◌}
use Rattle.terrain.specs.InnerGiven.{SameLevels, Searching}
use Rattle.terrain.proofs.ring.follow.Given as goal

abbrev pub invariant-loop-place : goal.invariant-loop-place
invariant-loop-place l = Searching l.drawing.rows l.drawing.columns l.drawing.direction.now l.words l.at (l.start + 1) l.x × SameLevels l.initial.words l.words × (l.x < l.drawing.rows * l.drawing.columns)

abbrev pub decreases-loop-place : goal.decreases-loop-place
decreases-loop-place l = l.drawing.rows * l.drawing.columns - l.at
