-- What the loops of `factor::sine::sine_by_halves` keep, and what falls. Assumes nothing.
use Rattle.factor.specs.Steepness.{sine_reaches}
use Rattle.laws.proofs.Greatest.{Among}
use Rattle.factor.proofs.sine.sine_by_halves.Given as goal

abbrev pub invariant-loop-left : goal.invariant-loop-left
invariant-loop-left l = Among (sine_reaches l.side l.q) 1023 l.u l.left

abbrev pub decreases-loop-left : goal.decreases-loop-left
decreases-loop-left l = l.left
