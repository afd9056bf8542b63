-- `terrain::surface::Surface::reach_shore` meets its contract. Assumes nothing.
use Rattle.std.proofs.Common.{sym, ◌∙◌, arith, ltb-true}
use Rattle.terrain.specs.Flat.{nearest_of}
use Rattle.terrain.proofs.InnerWading.{shores-put}
use Rattle.terrain.proofs.surface.Surface.reach_shore.Goals as goal

pub returns-then-is_shore : goal.returns-then-is_shore
returns-then-is_shore c =
    let a = c.args in
    let s = a.self in
    shores-put s.levels c.requires.0 (omega (arith, c.if-steps-x-lt-FAR.false)) (omega (arith, ltb-true (nearest_of s.rows s.columns s.level.now a.steps.now a.x 8) 1 (sym c.is_shore.ensures ∙ c.if-is_shore.true))) c.put.ensures
