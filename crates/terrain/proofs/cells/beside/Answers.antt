-- `terrain::cells::beside` meets its contract. Assumes nothing.
use Rattle.std.proofs.Common.{arith}
use Rattle.terrain.specs.InnerCells.{beside_of}
use Rattle.terrain.proofs.InnerInterior.{placed}
use Rattle.terrain.proofs.cells.beside.Goals as goal

pub returns : goal.returns
unfolding beside_of
returns c = let p = placed c.requires c.place_of-place.result c.place_of-place.ensures in omega arith
