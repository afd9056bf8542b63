-- What the loops of `report::classes::count_below` keep. Assumes nothing.
use Rattle.report.specs.InnerCells.{Counted, Few}
use Rattle.report.proofs.classes.count_below.Given as goal

abbrev pub invariant-loop-v : goal.invariant-loop-v
invariant-loop-v l = Counted l.block l.v-index l.given l.counts × Few l.counts l.v-index
