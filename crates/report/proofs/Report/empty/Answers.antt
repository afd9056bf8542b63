-- `report::Report::empty` meets its contract. Assumes nothing.
use mathlib.Core.Path.{sym}
use Rattle.report.proofs.Lists.{report-empty}
use Rattle.report.proofs.Report.empty.Goals as goal

pub returns : goal.returns
returns c = sym report-empty
