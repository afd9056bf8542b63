-- `terrain::filled::height_of` meets its contract. Assumes nothing.
use Rattle.terrain.proofs.InnerFlooding.{height-word}
use Rattle.terrain.proofs.filled.height_of.Goals as goal

pub returns : goal.returns
returns c = height-word _ c.requires
