-- `terrain::surface::Surface::sweep` meets its contract. Assumes nothing.
use Rattle.std.proofs.Common.{refl}
use Rattle.laws.proofs.Settle.{sweep-more}
use Rattle.terrain.specs.Flat.{flat_stepping}
use Rattle.terrain.specs.InnerFlats.{Within}
use Rattle.terrain.proofs.Flats.{flat-rule}
use Rattle.terrain.proofs.surface.Surface.sweep.Goals as goal

pub loop-x-preserved : goal.loop-x-preserved
loop-x-preserved c =
    let a = c.args in
    sweep-more (flat_stepping a.self.rows a.self.columns a.self.level.now) (Within a.self.rows a.self.columns a.self.level.now) (flat-rule a.self.rows a.self.columns a.self.level.now a.self.levels.long) a.steps.now c.loop-x.steps c.loop-x.x c.loop-x.lowered _ c.lower-lowered.result _ c.loop-x.invariant c.lower-lowered.ensures.told c.lower-lowered.ensures.is refl
