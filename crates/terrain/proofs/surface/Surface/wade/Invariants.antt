-- What the loops of `terrain::surface::Surface::wade` keep, and what falls. Assumes nothing.
use Rattle.std.proofs.Common.{◌≡◌, ◌-◌, ◌*◌, length}
use Rattle.terrain.specs.InnerFlats.{Wading}
use Rattle.terrain.proofs.surface.Surface.wade.Given as goal

abbrev pub invariant-loop-at : goal.invariant-loop-at
invariant-loop-at l = (length l.queue ≡ length l.initial.queue) × Wading l.self.rows l.self.columns l.self.level.now l.steps l.queue l.at l.end (l.self.rows * l.self.columns)

abbrev pub decreases-loop-at : goal.decreases-loop-at
decreases-loop-at l = length l.initial.queue - l.at
