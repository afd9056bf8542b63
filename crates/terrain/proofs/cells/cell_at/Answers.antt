-- `terrain::cells::cell_at` meets its contract. Assumes nothing.
use Rattle.std.proofs.Common.{sym, ⊎_elim, arith}
use Rattle.terrain.proofs.Neighbours.{cell-cases, cell_in}
use Rattle.terrain.proofs.cells.cell_at.Goals as goal

pub returns-then-a-lt1 : goal.returns-then-a-lt1
returns-then-a-lt1 c = ⊎_elim sym (λ h. absurd (omega (arith, h.up, h.down, h.left, h.right, c.then-a-lt1.either))) (cell-cases _ _ _ _)

pub returns : goal.returns
returns c = sym (cell_in _ _ _ _ c.if-a-lt1.false c.if-rows-a.false c.if-b-lt1.false c.if-columns-b.false)
