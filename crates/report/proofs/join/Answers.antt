-- `report::join` meets its contract. Assumes nothing.
use mathlib.Core.Path.{sym, ap, ◌∙◌}
use Rattle.text.specs.declared.faults.Fault.TheVariants.{Overflow}
use Rattle.report.proofs.Additions.{accepted}
use Rattle.report.proofs.InnerAdditions.{refused-with}
use Rattle.report.proofs.InnerJoins.{join-accepts, join-refuses}
use Rattle.report.proofs.join.Goals as goal

pub returns-in_default : goal.returns-in_default
returns-in_default c =
    sym (join-refuses c.args.report.now c.args.other c.in_default.ensures ∙ refused-with (record { fault = Overflow; place = 0 }) c.args.report.now)

pub returns : goal.returns
returns c = let w = c.in-Some.ensures in ap accepted w.1 ∙ sym (join-accepts c.args.report.now c.args.other w.0)
