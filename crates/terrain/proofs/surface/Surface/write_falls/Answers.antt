-- `terrain::surface::Surface::write_falls` meets its contract. Assumes nothing.
use Rattle.std.proofs.Common.{◌*◌, arith}
use Rattle.laws.proofs.Lists.{agrees-tab}
use Rattle.terrain.specs.Falls.{fall_at, falls_of}
use Rattle.terrain.proofs.surface.Surface.write_falls.Goals as goal

pub returns : goal.returns
unfolding falls_of
returns c =
    let a = c.args in
    agrees-tab (fall_at a.self.rows a.self.columns a.self.level.now a.direction.now) 0 c.loop-x.falls (a.self.rows * a.self.columns) c.loop-x.invariant.0 (λ j h. c.loop-x.invariant.1 j (omega (arith, c.loop-x.invariant.0)))
