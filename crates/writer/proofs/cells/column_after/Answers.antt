-- `writer::cells::column_after` meets its contract. Assumes nothing.
use mathlib.Core.Path.{sym, ap}
use mathlib.Core.Bool.{Bool, cond}
use Prim.Native.Nat.{◌+◌}
use native.Mathlib.Omega.{arith}
use borrow.Author.Tests.{eq-eqb, ne_eqb}
use Rattle.writer.specs.InnerCells.{column_after}
use Rattle.writer.proofs.cells.column_after.Goals as goal

pub returns-then-column-columns : goal.returns-then-column-columns
unfolding column_after
returns-then-column-columns c = (sym (ap (λ (b : Bool). cond b 0 (c.args.column + 1)) (eq-eqb _ _ c.if-column-columns.true)), omega arith)

pub returns : goal.returns
unfolding column_after
returns c = (sym (ap (λ (b : Bool). cond b 0 (c.args.column + 1)) (ne_eqb _ _ c.if-column-columns.false)), omega arith)
