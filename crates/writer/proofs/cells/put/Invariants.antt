-- What the loop of `writer::cells::put` keeps. Assumes nothing.
use Rattle.writer.proofs.InnerCells.{Along}
use Rattle.writer.proofs.cells.put.Given as goal

abbrev pub invariant-loop-cell : goal.invariant-loop-cell
invariant-loop-cell g l = Along g.W.Word.word l.cells l.columns l.initial.out l.at l.out l.next l.column l.cell-index
