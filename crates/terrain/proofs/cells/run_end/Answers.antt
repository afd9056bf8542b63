-- `terrain::cells::run_end` meets its contract. Assumes nothing.
use Rattle.terrain.proofs.InnerInterior.{run_inside}
use Rattle.terrain.proofs.cells.run_end.Goals as goal

pub returns-then-is_inside : goal.returns-then-is_inside
returns-then-is_inside c = run_inside _ _ _ (c.is_inside.ensures c.if-is_inside.true)
