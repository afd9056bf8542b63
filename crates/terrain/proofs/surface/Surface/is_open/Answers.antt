-- `terrain::surface::Surface::is_open` meets its contract. Assumes nothing.
use Rattle.terrain.proofs.InnerStepping.{open_none, open_more}
use Rattle.terrain.proofs.surface.Surface.is_open.Goals as goal

pub loop-k-init : goal.loop-k-init
loop-k-init g c = let a = c.args in open_none a.self.rows a.self.columns a.self.level.now a.x

pub loop-k-preserved : goal.loop-k-preserved
loop-k-preserved g c = let a = c.args in open_more a.self.rows a.self.columns a.self.level.now a.x c.loop-k.k c.loop-k.invariant c.level_beside.ensures
