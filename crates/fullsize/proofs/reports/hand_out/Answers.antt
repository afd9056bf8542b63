-- `fullsize::reports::hand_out` meets its contract. Assumes nothing.
use Rattle.fullsize.specs.Reporting.{numbers_from}
use Rattle.fullsize.proofs.ReportNumbers.{four_are}
use Rattle.fullsize.proofs.reports.hand_out.Goals as goal

pub returns : goal.returns
unfolding numbers_from
returns c = rw (c.greatest_numbers-last.ensures, four_are c.args.report.greatest)
