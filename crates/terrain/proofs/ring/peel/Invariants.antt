-- What the loops of `terrain::ring::peel` keep. Assumes nothing.
use Rattle.terrain.specs.InnerGiven.{SameLevels, Searching}
use Rattle.std.proofs.Common.{◌*◌}
use Rattle.terrain.proofs.ring.peel.Given as goal

abbrev pub invariant-loop-x : goal.invariant-loop-x
invariant-loop-x l = Searching l.drawing.rows l.drawing.columns l.drawing.direction.now l.words l.place l.x (l.drawing.rows * l.drawing.columns) × SameLevels l.initial.words l.words
