-- `writer::cells::put` meets its contract. Assumes nothing.
use native.Mathlib.Omega.{arith}
use Rattle.writer.proofs.InnerCells.{along-fits, along-more, along-all}
use Rattle.writer.proofs.cells.put.Goals as goal

pub put-end-requires : goal.put-end-requires
put-end-requires g c = omega (arith, along-fits c.loop-cell.invariant c.cell-item.result (omega arith) c.cell-item.is c.requires.1)

pub overflow_add-next : goal.overflow_add-next
overflow_add-next g c =
    omega (arith, along-fits c.loop-cell.invariant c.cell-item.result (omega arith) c.cell-item.is c.requires.1, c.put-end.ensures.ends, c.loop-cell.invariant.left.long)

pub loop-cell-preserved : goal.loop-cell-preserved
loop-cell-preserved g c =
    along-more c.loop-cell.invariant c.cell-item.result (omega arith) c.cell-item.is c.put-end.ensures c.put.ensures c.gap.ensures
    c.column_after-column.ensures.0 c.column_after-column.ensures.1

pub returns : goal.returns
returns g c = along-all c.loop-cell.invariant (omega arith)
