-- What the loops of `terrain::surface::Surface::point_down` keep, and what falls. Assumes nothing.
use Rattle.std.proofs.Common.{◌≡◌, ◌-◌, ◌*◌, ◌≤◌, length}
use Rattle.terrain.specs.InnerLevels.{Down}
use Rattle.terrain.proofs.surface.Surface.point_down.Given as goal

abbrev pub invariant-loop-x : goal.invariant-loop-x
invariant-loop-x l = (length l.direction ≡ length l.initial.direction) × (length l.falls ≡ length l.initial.falls) × (length l.steps ≡ length l.initial.steps) × (l.x ≤ l.self.rows * l.self.columns) × Down l.self.rows l.self.columns l.self.level.now l.direction l.falls l.steps l.x

abbrev pub decreases-loop-x : goal.decreases-loop-x
decreases-loop-x l = l.self.rows * l.self.columns - l.x
