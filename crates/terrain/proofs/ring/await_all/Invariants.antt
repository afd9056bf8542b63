-- What the loops of `terrain::ring::await_all` keep. Assumes nothing.
use Rattle.terrain.specs.InnerGiven.{SameLevels, Counting}
use Rattle.terrain.proofs.ring.await_all.Given as goal

abbrev pub invariant-loop-x : goal.invariant-loop-x
invariant-loop-x l = Counting l.drawing.rows l.drawing.columns l.drawing.direction.now l.words l.x × SameLevels l.initial.words l.words
