-- `terrain::ring::peel` meets its contract. Assumes nothing.
use Rattle.terrain.proofs.InnerRinging.{same_none, search-start}
use Rattle.terrain.proofs.ring.peel.Goals as goal

pub loop-x-init : goal.loop-x-init
loop-x-init c = (search-start c.requires, same_none c.args.words.now)
