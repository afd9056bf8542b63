-- `terrain::queue::Lists::reach_from` meets its contract. Assumes nothing.
use Rattle.std.proofs.Common.{arith}
use Rattle.terrain.proofs.InnerQueueing.{rimming-around}
use Rattle.terrain.proofs.queue.Lists.reach_from.Goals as goal

pub returns : goal.returns
returns c = rimming-around c.requires.1 (omega arith) c.spread.ensures
