-- What the loops of `terrain::surface::Surface::reach_shores` keep. Assumes nothing.
use Rattle.terrain.specs.InnerFlats.{Shores}
use Rattle.terrain.proofs.surface.Surface.reach_shores.Given as goal

abbrev pub invariant-loop-x : goal.invariant-loop-x
invariant-loop-x l = Shores l.self.rows l.self.columns l.self.level.now l.steps l.queue l.end l.x
