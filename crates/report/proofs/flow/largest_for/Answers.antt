-- `report::flow::largest_for` meets its contract. Assumes nothing.
use mathlib.Core.Logic.{⊎_elim}
use native.Mathlib.Omega.{arith}
use Rattle.report.proofs.InnerFlow.{bounding-largest, bounding-over, bounding-never}
use Rattle.report.proofs.flow.largest_for.Goals as goal

pub returns-in-Share : goal.returns-in-Share
returns-in-Share c = bounding-largest _ _ c.largest.ensures

pub returns-in-Over : goal.returns-in-Over
returns-in-Over c =
    ⊎_elim (λ w. bounding-over c.args.count.now w.1 (λ x. omega (arith, c.type_inv.count x)))
    (λ e. bounding-never c.args.count.now e (λ x. omega (arith, c.type_inv.count x))) c.in-Over.is
