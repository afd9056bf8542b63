-- `terrain::queue::Head::push` meets its contract. Assumes nothing.
use Rattle.terrain.proofs.InnerQueueing.{queueing-set}
use Rattle.std.proofs.Common.{arith}
use Rattle.terrain.proofs.queue.Head.push.Goals as goal

pub returns : goal.returns
returns c = let s = c.args in queueing-set s.words.now s.x _ (omega (arith, c.requires))
