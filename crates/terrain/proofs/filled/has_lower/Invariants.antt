-- What the loops of `terrain::filled::has_lower` keep. Assumes nothing.
use Rattle.std.proofs.Common.{◌≡◌, ltb}
use Rattle.terrain.specs.Filled.{lowest_of}
use Rattle.terrain.proofs.filled.has_lower.Given as goal

abbrev pub invariant-loop-k : goal.invariant-loop-k
invariant-loop-k l = l.found ≡ ltb (lowest_of l.ground.rows l.ground.columns l.level l.x l.k) l.v
