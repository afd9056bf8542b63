-- What the loops of `numerals::put_all` keep, and what falls. Assumes nothing.
use Prim.Native.Nat.{◌+◌, ◌≤◌}
use lib.ListN.{length, take}
use Rattle.numerals.specs.Writing.{Wrote}
use Rattle.numerals.proofs.put_all.Given as goal

abbrev pub invariant-loop-i : goal.invariant-loop-i
invariant-loop-i l = (l.i ≤ length l.bytes) × Wrote l.initial.out l.at (take l.i l.bytes) (l.at + l.i) l.out
