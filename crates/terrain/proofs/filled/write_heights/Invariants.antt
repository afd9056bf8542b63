-- What the loops of `terrain::filled::write_heights` keep. Assumes nothing.
use Rattle.std.proofs.Common.{ℕ, get_or, pos}
use Rattle.laws.specs.Lists.{Agrees}
use Rattle.terrain.specs.Cells.{height_of}
use Rattle.terrain.proofs.filled.write_heights.Given as goal

abbrev pub invariant-loop-x : goal.invariant-loop-x
invariant-loop-x l = Agrees (λ (i : ℕ). height_of (get_or l.level i 0)) (pos 0) l.filled l.x
