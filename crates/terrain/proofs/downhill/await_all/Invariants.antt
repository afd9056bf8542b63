-- What the loops of `terrain::downhill::await_all` keep. Assumes nothing.
use Rattle.terrain.specs.InnerDownhill.{Awaiting}
use Rattle.terrain.proofs.downhill.await_all.Given as goal

abbrev pub invariant-loop-x : goal.invariant-loop-x
invariant-loop-x l = Awaiting l.drawing.rows l.drawing.columns l.drawing.direction.now l.waiting l.x
