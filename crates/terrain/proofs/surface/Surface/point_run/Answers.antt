-- `terrain::surface::Surface::point_run` meets its contract. Assumes nothing.
use Rattle.std.proofs.Common.{arith, length-set}
use Rattle.terrain.proofs.InnerStepping.{start-told}
use Rattle.terrain.proofs.InnerPointing.{down-more}
use Rattle.terrain.proofs.surface.Surface.point_run.Goals as goal

pub loop-x-preserved : goal.loop-x-preserved
loop-x-preserved c =
    let t = c.requires in
    let a = c.args in (
      rw length-set c.loop-x.invariant.0,
      rw length-set c.loop-x.invariant.1,
      rw length-set c.loop-x.invariant.2,
      down-more (omega (arith, c.loop-x.invariant.0, t.1, t.0.within)) (omega (arith, c.loop-x.invariant.1, t.2, t.0.within)) (omega (arith, c.loop-x.invariant.2, t.3, t.0.within)) c.loop-x.invariant.3 c.fall_at-fall.ensures
          (start-told a.self.rows a.self.columns a.self.level.now c.loop-x.x c.fall_at-fall.ensures.code c.is_open.ensures c.start_steps.ensures),
    )
