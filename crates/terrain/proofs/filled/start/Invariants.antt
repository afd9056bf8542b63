-- What the loops of `terrain::filled::start` keep. Assumes nothing.
use Rattle.terrain.specs.InnerFlood.{done_of, queued_from}
use Rattle.terrain.specs.Filled.{top}
use Rattle.terrain.specs.Cells.{levels_of, valid_at}
use Rattle.laws.specs.Lists.{Agrees}
use Rattle.std.proofs.Common.{ℕ, ◌<◌, cond, get_or}
use Rattle.terrain.proofs.filled.start.Given as goal

abbrev pub invariant-loop-x : goal.invariant-loop-x
invariant-loop-x l = Agrees (λ (i : ℕ). cond (valid_at (levels_of l.ground.elevation.now) i) top 0) 0 (done_of l.words) l.x × ((i : ℕ) → i < l.x → get_or l.words i 0 < queued_from)
