-- What the loops of `factor::length_factor::length_factor_by_halves` keep, and what falls. Assumes nothing.
use Prim.Native.Nat.{◌+◌}
use Rattle.factor.specs.LengthFactor.{reached}
use Rattle.laws.proofs.Greatest.{Among}
use Rattle.factor.proofs.length_factor.length_factor_by_halves.Given as goal

abbrev pub invariant-loop-left : goal.invariant-loop-left
invariant-loop-left l = Among (reached (l.class + 2) l.mm) 371 l.t l.left

abbrev pub decreases-loop-left : goal.decreases-loop-left
decreases-loop-left l = l.left
