-- What the loop of `text::ranges::first_bad` keeps. Assumes nothing.
use Rattle.text.proofs.InnerTested.{GoodTo}
use Rattle.text.proofs.ranges.first_bad.Given as goal

abbrev pub invariant-loop-x : goal.invariant-loop-x
invariant-loop-x l = GoodTo l.heights l.x
