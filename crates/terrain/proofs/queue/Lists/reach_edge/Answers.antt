-- `terrain::queue::Lists::reach_edge` meets its contract. Assumes nothing.
use Rattle.terrain.proofs.InnerQueueing.{rimming-then, rimming-north, rimming-south, rimming-west, rimming-east}
use Rattle.std.proofs.Common.{rules}
use Rattle.terrain.proofs.queue.Lists.reach_edge.Goals as goal

pub returns : goal.returns
returns c = rimming-then (rimming-then (rimming-then (rimming-north c.reach_line.ensures) (rimming-south (search rules) (search rules) c.reach_line-2.ensures)) (rimming-west c.reach_line-3.ensures)) (rimming-east (search rules) c.reach_line-4.ensures)
