-- `report::classes::sum_all` meets its contract. Assumes nothing.
use mathlib.Core.Path.{sym}
use native.Mathlib.Omega.{arith}
use Rattle.report.proofs.InnerCells.{all_none, all_more}
use Rattle.report.proofs.classes.sum_all.Goals as goal

pub loop-v-init : goal.loop-v-init
loop-v-init c = (sym (all_none c.args.block.now), omega arith)

pub loop-v-preserved : goal.loop-v-preserved
loop-v-preserved c =
    (omega (arith, all_more c.args.block.now c.loop-v.v-index), omega (arith, c.type_inv.block c.loop-v.v-index))
