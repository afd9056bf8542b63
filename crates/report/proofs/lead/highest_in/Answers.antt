-- `report::lead::highest_in` meets its contract. Assumes nothing.
use mathlib.Core.Path.{sym}
use native.Mathlib.Omega.{arith}
use Rattle.report.proofs.InnerLead.{highest-none, highest-more}
use Rattle.report.proofs.lead.highest_in.Goals as goal

pub loop-v-init : goal.loop-v-init
loop-v-init c = sym (highest-none c.args.block.now)

pub loop-v-preserved : goal.loop-v-preserved
loop-v-preserved c = omega (arith, highest-more c.args.block.now c.loop-v.v-index)
