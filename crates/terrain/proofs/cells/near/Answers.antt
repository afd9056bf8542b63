-- `terrain::cells::near` meets its contract. Assumes nothing.
use Rattle.terrain.specs.Cells.{neighbour}
use Rattle.terrain.proofs.InnerInterior.{place-row, place-col}
use Rattle.terrain.proofs.cells.near.Goals as goal

pub returns : goal.returns
unfolding neighbour
returns c = rw (← place-row c.args.k c.place_of-place.result c.requires.2 c.place_of-place.ensures, ← place-col c.args.k c.place_of-place.result c.requires.2 c.place_of-place.ensures) c.cell_at.ensures
