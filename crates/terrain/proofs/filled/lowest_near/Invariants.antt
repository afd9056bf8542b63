-- What the loops of `terrain::filled::lowest_near` keep. Assumes nothing.
use Rattle.std.proofs.Common.{◌≡◌}
use Rattle.terrain.specs.Filled.{lowest_of}
use Rattle.terrain.proofs.filled.lowest_near.Given as goal

abbrev pub invariant-loop-k : goal.invariant-loop-k
invariant-loop-k l = l.low ≡ lowest_of l.ground.rows l.ground.columns l.level l.x l.k
