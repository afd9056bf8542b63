-- What the loops of `terrain::surface::Surface::point_flats` keep. Assumes nothing.
use Rattle.terrain.proofs.InnerPointing.{NoneNearer, Pointing}
use Rattle.terrain.proofs.surface.Surface.point_flats.Given as goal

abbrev pub invariant-loop-k : goal.invariant-loop-k
invariant-loop-k l = NoneNearer l.self.rows l.self.columns l.self.level.now l.x l.steps l.k

abbrev pub invariant-loop-x : goal.invariant-loop-x
invariant-loop-x l = Pointing l.self.rows l.self.columns l.self.level.now l.steps l.direction l.x
