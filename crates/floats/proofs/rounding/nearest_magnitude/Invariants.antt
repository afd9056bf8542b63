-- What the loops of `floats::rounding::nearest_magnitude` keep, and what falls. Assumes nothing.
use Prim.Native.Nat.{◌-◌}
use Rattle.floats.proofs.InnerMagnitude.{Raised, Scaled}
use Rattle.floats.proofs.rounding.nearest_magnitude.Given as goal

abbrev pub invariant-loop-m : goal.invariant-loop-m
invariant-loop-m l = Raised l.n l.m l.e

abbrev pub decreases-loop-m : goal.decreases-loop-m
decreases-loop-m l = 838860800 - l.m

abbrev pub invariant-loop-d : goal.invariant-loop-d
invariant-loop-d l = Scaled l.n l.m l.initial.e l.e l.d

abbrev pub decreases-loop-d : goal.decreases-loop-d
decreases-loop-d l = l.m - l.d
