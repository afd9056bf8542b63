-- `report::tests::judge_shape` meets its contract. Assumes nothing.
use mathlib.Core.Path.{sym}
use native.Mathlib.Omega.{arith}
use Rattle.text.proofs.Accepted.{area-few}
use Rattle.report.proofs.InnerJudging.{rows-refused, columns-refused, long-refused, shape-sound}
use Rattle.report.proofs.tests.judge_shape.Goals.{then-not-is_size-via-then-not-is_size, then-not-is_size-via-else-not-is_size+then-not-is_size-2}
use Rattle.report.proofs.tests.judge_shape.Goals as goal

pub returns-then-not-is_size : goal.returns-then-not-is_size
returns-then-not-is_size c =
    let a = c.args in
    elim c.then-not-is_size.branch [
      | then-not-is_size-via-then-not-is_size w ↦ rows-refused a.rows a.columns a.lengths.now (sym w.if-not-is_size.ensures)
      | then-not-is_size-via-else-not-is_size+then-not-is_size-2 w ↦ columns-refused a.rows a.columns a.lengths.now (sym w.if-not-is_size-2.ensures)
    ]

pub overflow_mul-rows : goal.overflow_mul-rows
overflow_mul-rows c = omega (arith, area-few c.args.rows c.args.columns (sym c.if-not-is_size.ensures) (sym c.if-not-is_size-2.ensures))

pub returns-then-not-are_long : goal.returns-then-not-are_long
returns-then-not-are_long c =
    let a = c.args in
    long-refused a.rows a.columns a.lengths.now (sym c.if-not-is_size.ensures) (sym c.if-not-is_size-2.ensures) (sym c.if-not-are_long.ensures)

pub returns : goal.returns
returns c =
    let a = c.args in
    shape-sound a.rows a.columns a.lengths.now (sym c.if-not-is_size.ensures) (sym c.if-not-is_size-2.ensures) (sym c.if-not-are_long.ensures)
