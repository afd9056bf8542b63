-- What the loops of `terrain::downhill::descend` keep. Assumes nothing.
use Rattle.terrain.specs.InnerDownhill.{Peeled}
use Rattle.std.proofs.Common.{◌*◌}
use Rattle.terrain.proofs.downhill.descend.Given as goal

abbrev pub invariant-loop-x : goal.invariant-loop-x
invariant-loop-x l = Peeled l.drawing.rows l.drawing.columns l.drawing.direction.now l.order l.waiting l.place l.x (l.drawing.rows * l.drawing.columns)
