-- What the loops of `terrain::surface::Surface::fall_at` keep. Assumes nothing.
use Rattle.terrain.proofs.InnerKeys.{KeysTo}
use Rattle.terrain.proofs.surface.Surface.fall_at.Given as goal

abbrev pub invariant-loop-i : goal.invariant-loop-i
invariant-loop-i g l = KeysTo l.self.rows l.self.columns l.self.level.now l.x l.i l.cardinal l.diagonal
