-- `terrain::filled::fill` meets its contract. Assumes nothing.
use Rattle.std.proofs.Common.{arith}
use Rattle.terrain.proofs.InnerWords.{flood-filled}
use Rattle.terrain.proofs.filled.fill.Goals as goal

pub returns-else-faulty_cells-gt0 : goal.returns-else-faulty_cells-gt0
returns-else-faulty_cells-gt0 c = flood-filled c.args.ground.ready _ _ (c.start.ensures.0) c.flood.ensures (λ x h. c.faulty_cells.ensures.all (omega arith) x (omega arith) h)
