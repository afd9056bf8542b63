-- What the loops of `report::classes::sum_all` keep. Assumes nothing.
use mathlib.Core.Path.{◌≡◌}
use Prim.Native.Nat.{◌*◌, ◌≤◌}
use Rattle.report.specs.InnerCells.{all_to}
use Rattle.report.proofs.classes.sum_all.Given as goal

abbrev pub invariant-loop-v : goal.invariant-loop-v
invariant-loop-v l = (l.sum ≡ all_to l.block l.v-index) × (l.sum ≤ l.v-index * 4294967295)
