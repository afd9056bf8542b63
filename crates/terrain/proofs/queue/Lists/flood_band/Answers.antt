-- `terrain::queue::Lists::flood_band` meets its contract. Assumes nothing.
use Rattle.terrain.proofs.InnerQueueing.{to_none, to-moved}
use Rattle.terrain.proofs.queue.Lists.flood_band.Goals as goal

pub loop-list-init : goal.loop-list-init
loop-list-init c = to_none (to-moved c.requires.2 c.open_band.ensures).waiting
