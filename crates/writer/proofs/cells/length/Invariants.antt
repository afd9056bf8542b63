-- What the loop of `writer::cells::length` keeps. Assumes nothing.
use Rattle.writer.proofs.InnerCells.{Counted}
use Rattle.writer.proofs.cells.length.Given as goal

abbrev pub invariant-loop-cell : goal.invariant-loop-cell
invariant-loop-cell g l = Counted g.W.Word.word l.cells l.cell-index l.total
