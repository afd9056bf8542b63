-- What the loop of `floats::cells::judge` keeps. Assumes nothing.
use Rattle.floats.proofs.InnerCells.{ClearTo}
use Rattle.floats.proofs.cells.judge.Given as goal

abbrev pub invariant-loop-place : goal.invariant-loop-place
invariant-loop-place l = ClearTo l.v l.floats l.place
