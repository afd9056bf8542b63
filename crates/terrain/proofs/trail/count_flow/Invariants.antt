-- What the loops of `terrain::trail::count_flow` keep. Assumes nothing.
use Rattle.terrain.proofs.InnerPassing.{Passing}
use Rattle.terrain.proofs.trail.count_flow.Given as goal

abbrev pub invariant-loop-cell : goal.invariant-loop-cell
invariant-loop-cell l = Passing l.drawing.rows l.drawing.columns l.drawing.direction.now l.order l.count l.cell-index
