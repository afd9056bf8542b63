-- `terrain::are_long` meets its contract. Assumes nothing.
use Rattle.text.proofs.Accepted.{joined-long}
use Rattle.terrain.proofs.are_long.Goals as goal

pub returns : goal.returns
returns c = joined-long c.args.cells _
