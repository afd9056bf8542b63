-- `writer::cells::length` meets its contract. Assumes nothing.
use native.Mathlib.Omega.{arith}
use Rattle.writer.proofs.InnerCells.{counted-more, counted-all}
use Rattle.writer.proofs.cells.length.Goals as goal

pub loop-cell-preserved : goal.loop-cell-preserved
loop-cell-preserved g c =
    counted-more c.loop-cell.invariant c.cell-item.result (omega arith) c.cell-item.is c.length.result c.length.ensures.0 c.length.ensures.1

pub returns : goal.returns
returns g c = (counted-all c.loop-cell.invariant (omega arith), omega (arith, c.loop-cell.invariant.few, c.loop-cell.invariant.within))
