-- What the loops of `terrain::trail::longest_trail` keep. Assumes nothing.
use Rattle.std.proofs.Common.{◌-◌, length}
use Rattle.terrain.proofs.InnerFollowing.{Backing}
use Rattle.terrain.proofs.trail.longest_trail.Given as goal

abbrev pub invariant-loop-cell : goal.invariant-loop-cell
invariant-loop-cell l = Backing l.drawing.rows l.drawing.columns l.drawing.direction.now l.order (length l.order) l.workspace (length l.order - length l.yielded) l.most
