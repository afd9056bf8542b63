-- What the loops of `text::numbers::zeros_end` keep. Assumes nothing.
use Rattle.text.specs.Numbers.{zero}
use Rattle.text.proofs.InnerRuns.{Along}
use Rattle.text.proofs.numbers.zeros_end.Given as goal

abbrev pub invariant-loop-i : goal.invariant-loop-i
invariant-loop-i l = Along zero l.s l.a l.most l.i
