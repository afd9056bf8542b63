-- What the loops of `numerals::put_padded` keep, and what falls. Assumes nothing.
use Rattle.numerals.specs.Words.{padded}
use Rattle.numerals.proofs.InnerBack.{Back}
use Rattle.numerals.proofs.put_padded.Given as goal

abbrev pub invariant-loop-i : goal.invariant-loop-i
invariant-loop-i l = Back l.initial.out l.at (padded l.count l.n) l.out l.i (padded l.i l.left)
