-- What the loops of `terrain::surface::Surface::nearest_near` keep. Assumes nothing.
use Rattle.std.proofs.Common.{◌≡◌}
use Rattle.terrain.specs.Flat.{nearest_of}
use Rattle.terrain.proofs.surface.Surface.nearest_near.Given as goal

abbrev pub invariant-loop-k : goal.invariant-loop-k
invariant-loop-k l = (l.low ≡ nearest_of l.self.rows l.self.columns l.self.level.now l.steps l.x l.k)
