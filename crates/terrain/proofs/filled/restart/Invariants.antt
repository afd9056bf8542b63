-- What the loops of `terrain::filled::restart` keep. Assumes nothing.
use Rattle.terrain.specs.Filled.{top}
use Rattle.terrain.specs.Cells.{levels_of, valid_at}
use Rattle.laws.specs.Lists.{Agrees}
use Rattle.std.proofs.Common.{ℕ, cond}
use Rattle.terrain.proofs.filled.restart.Given as goal

abbrev pub invariant-loop-x : goal.invariant-loop-x
invariant-loop-x l = Agrees (λ (i : ℕ). cond (valid_at (levels_of l.ground.elevation.now) i) top 0) 0 l.level l.x
