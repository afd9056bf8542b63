-- What the loops of `terrain::surface::Surface::is_shore` keep. Assumes nothing.
use Rattle.std.proofs.Common.{◌≡◌, ltb}
use Rattle.terrain.specs.Flat.{nearest_of}
use Rattle.terrain.proofs.surface.Surface.is_shore.Given as goal

abbrev pub invariant-loop-k : goal.invariant-loop-k
invariant-loop-k l = (l.found ≡ ltb (nearest_of l.self.rows l.self.columns l.self.level.now l.steps l.x l.k) 1)
