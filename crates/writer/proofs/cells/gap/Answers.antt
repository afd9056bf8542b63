-- `writer::cells::gap` meets its contract. Assumes nothing.
use mathlib.Core.Path.{sym, ap}
use mathlib.Core.Bool.{Bool, cond}
use borrow.Author.Tests.{eq-eqb, ne_eqb}
use Rattle.writer.specs.InnerCells.{gap_of}
use Rattle.writer.proofs.cells.gap.Goals as goal

pub returns-then-column-columns : goal.returns-then-column-columns
unfolding gap_of
returns-then-column-columns c = sym (ap (λ (b : Bool). cond b 10 32) (eq-eqb _ _ c.if-column-columns.true))

pub returns : goal.returns
unfolding gap_of
returns c = sym (ap (λ (b : Bool). cond b 10 32) (ne_eqb _ _ c.if-column-columns.false))
