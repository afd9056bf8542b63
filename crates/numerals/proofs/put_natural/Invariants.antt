-- What the loop of `numerals::put_natural` keeps. Assumes nothing.
use Rattle.numerals.specs.Words.{decimal}
use Rattle.numerals.proofs.InnerBack.{Back}
use Rattle.numerals.proofs.put_natural.Given as goal

abbrev pub invariant-loop-i : goal.invariant-loop-i
invariant-loop-i l = Back l.initial.out l.at (decimal l.n) l.out l.i (decimal l.left)
