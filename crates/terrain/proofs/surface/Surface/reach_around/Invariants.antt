-- What the loops of `terrain::surface::Surface::reach_around` keep. Assumes nothing.
use Rattle.std.proofs.Common.{ℕ}
use Rattle.terrain.specs.InnerFlats.{Spreading}
use Rattle.terrain.proofs.surface.Surface.reach_around.Given as goal

abbrev pub invariant-loop-k : goal.invariant-loop-k
invariant-loop-k l = ((from : ℕ) → Spreading l.self.rows l.self.columns l.self.level.now l.initial.steps l.initial.queue from l.end l.d l.x 0 → Spreading l.self.rows l.self.columns l.self.level.now l.steps l.queue from l.last l.d l.x l.k)
