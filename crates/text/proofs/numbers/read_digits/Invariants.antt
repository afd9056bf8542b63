-- What the loops of `text::numbers::read_digits` keep. Assumes nothing.
use Rattle.text.proofs.InnerValues.{Scanned}
use Rattle.text.proofs.numbers.read_digits.Given as goal

abbrev pub invariant-loop-i : goal.invariant-loop-i
invariant-loop-i l = Scanned l.s l.a l.most l.value l.i
