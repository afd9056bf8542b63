-- What the loop of `terrain::surface::Surface::settle` keeps, and what falls. Assumes nothing.
use Rattle.laws.specs.Lists.{total}
use Rattle.terrain.specs.InnerFlats.{StepsKept}
use Rattle.terrain.proofs.surface.Surface.settle.Given as goal

abbrev pub invariant-loop : goal.invariant-loop
invariant-loop l = StepsKept l.self.rows l.self.columns l.self.level.now l.steps

abbrev pub decreases-loop : goal.decreases-loop
decreases-loop l = total l.steps
