-- What the loops of `numerals::digit_count` keep, and what falls. Assumes nothing.
use Rattle.numerals.proofs.InnerBack.{Counting}
use Rattle.numerals.proofs.digit_count.Given as goal

abbrev pub invariant-loop-left : goal.invariant-loop-left
invariant-loop-left l = Counting l.n l.count l.left

abbrev pub decreases-loop-left : goal.decreases-loop-left
decreases-loop-left l = l.left
