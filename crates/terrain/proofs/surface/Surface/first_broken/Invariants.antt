-- What the loops of `terrain::surface::Surface::first_broken` keep. Assumes nothing.
use Rattle.std.proofs.Common.{◌≡◌, ℕ, ◌<◌, false, not}
use Rattle.terrain.specs.Given.{kept_at}
use Rattle.terrain.proofs.surface.Surface.first_broken.Given as goal

abbrev pub invariant-loop-x : goal.invariant-loop-x
invariant-loop-x l = ((j : ℕ) → j < l.x → not (kept_at l.self.rows l.self.columns l.self.level.now l.direction j) ≡ false)
