-- What the loops of `report::lead::highest_in` keep. Assumes nothing.
use mathlib.Core.Path.{◌≡◌}
use Rattle.report.specs.InnerCells.{highest_to}
use Rattle.report.proofs.lead.highest_in.Given as goal

abbrev pub invariant-loop-v : goal.invariant-loop-v
invariant-loop-v l = l.highest ≡ highest_to l.block l.v-index
