-- `terrain::surface::Surface::nearest_near` meets its contract. Assumes nothing.
use Rattle.std.proofs.Common.{sym}
use Rattle.terrain.proofs.Flats.{nearest-none, nearest-more}
use Rattle.terrain.proofs.surface.Surface.nearest_near.Goals as goal

pub loop-k-init : goal.loop-k-init
loop-k-init c = sym (nearest-none _ _ _ _ _)

pub loop-k-preserved : goal.loop-k-preserved
loop-k-preserved c =
    let a = c.args in
    cc (nearest-more a.self.rows a.self.columns a.self.level.now a.steps.now a.x c.loop-k.k)
