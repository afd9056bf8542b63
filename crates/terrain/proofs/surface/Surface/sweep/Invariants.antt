-- What the loops of `terrain::surface::Surface::sweep` keep. Assumes nothing.
use Rattle.laws.specs.Settle.{Sweeping}
use Rattle.terrain.specs.Flat.{flat_stepping}
use Rattle.terrain.specs.InnerFlats.{Within}
use Rattle.terrain.proofs.surface.Surface.sweep.Given as goal

abbrev pub invariant-loop-x : goal.invariant-loop-x
invariant-loop-x l = Sweeping (flat_stepping l.self.rows l.self.columns l.self.level.now) (Within l.self.rows l.self.columns l.self.level.now) l.initial.steps l.steps l.x l.lowered
