-- What the loops of `terrain::surface::Surface::write_falls` keep. Assumes nothing.
use Rattle.std.proofs.Common.{◌≡◌, ◌*◌, length}
use Rattle.laws.specs.Lists.{Agrees}
use Rattle.terrain.specs.Falls.{fall_at}
use Rattle.terrain.proofs.surface.Surface.write_falls.Given as goal

abbrev pub invariant-loop-x : goal.invariant-loop-x
invariant-loop-x l = (length l.falls ≡ l.self.rows * l.self.columns) × Agrees (fall_at l.self.rows l.self.columns l.self.level.now l.direction) 0 l.falls l.x
