-- `report::tally::none` meets its contract. Assumes nothing.
use Rattle.report.proofs.InnerTally.{tallied-none}
use Rattle.report.proofs.tally.none.Goals as goal

pub returns : goal.returns
returns c = tallied-none
