-- What the loops of `terrain::surface::Surface::is_open` keep. Assumes nothing.
use Rattle.std.proofs.Common.{◌≡◌}
use Rattle.terrain.specs.InnerLevels.{open_at}
use Rattle.terrain.proofs.surface.Surface.is_open.Given as goal

abbrev pub invariant-loop-k : goal.invariant-loop-k
invariant-loop-k g l = (l.found ≡ open_at l.self.rows l.self.columns l.self.level.now l.x l.k)
