-- `report::tally::lead_after` meets its contract. Assumes nothing.
use native.Mathlib.Omega.{arith}
use Rattle.report.proofs.InnerLead.{lead-stays, lead-moves}
use Rattle.report.proofs.tally.lead_after.Goals as goal

pub returns-then-counts : goal.returns-then-counts
returns-then-counts c =
    λ l b led counted. lead-moves (λ x. omega (arith, c.type_inv.block x)) b led counted c.highest_in.result c.highest_in.ensures c.if-counts.true

pub returns : goal.returns
returns c = λ l b led counted. lead-stays (λ x. omega (arith, c.type_inv.block x)) b led counted c.if-counts.false
