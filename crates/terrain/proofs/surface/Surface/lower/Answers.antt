-- `terrain::surface::Surface::lower` meets its contract. Assumes nothing.
use Rattle.std.proofs.Common.{arith}
use Rattle.terrain.proofs.Flats.{nearest-far}
use Rattle.terrain.proofs.surface.Surface.lower.Goals as goal

pub overflow_add-d : goal.overflow_add-d
overflow_add-d c = let a = c.args in omega (arith, c.nearest_near-d.ensures, nearest-far a.self.rows a.self.columns a.self.level.now a.steps.now a.x 8)
