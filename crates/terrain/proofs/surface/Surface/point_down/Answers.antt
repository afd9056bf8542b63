-- `terrain::surface::Surface::point_down` meets its contract. Assumes nothing.
use Rattle.std.proofs.Common.{◌∙◌, arith, length-set}
use Rattle.terrain.proofs.InnerStepping.{start-told}
use Rattle.terrain.proofs.InnerPointing.{down-more}
use Rattle.terrain.proofs.surface.Surface.point_down.Goals as goal

pub loop-x-preserved : goal.loop-x-preserved
loop-x-preserved c =
    let a = c.args in
    let long = c.point_run.auto.direction ∙ c.loop-x.invariant.0 in
    let falls-long = c.point_run.auto.falls ∙ c.loop-x.invariant.1 in
    let steps-long = c.point_run.auto.steps ∙ c.loop-x.invariant.2 in (
      rw length-set long,
      rw length-set falls-long,
      rw length-set steps-long,
      omega (arith, c.run_end-end.ensures.within),
      down-more (omega (arith, c.run_end-end.ensures.within, long, c.requires.0)) (omega (arith, c.run_end-end.ensures.within, falls-long, c.requires.1)) (omega (arith, c.run_end-end.ensures.within, steps-long, c.requires.2)) c.point_run.ensures c.fall_at-fall.ensures
          (start-told a.self.rows a.self.columns a.self.level.now c.run_end-end.result c.fall_at-fall.ensures.code c.is_open.ensures c.start_steps.ensures),
    )
