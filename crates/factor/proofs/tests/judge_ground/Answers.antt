-- `factor::tests::judge_ground` meets its contract. Assumes nothing.
use mathlib.Core.Path.{sym, ◌∙◌}
use native.Mathlib.Omega.{arith}
use Rattle.text.proofs.Accepted.{area-few}
use Rattle.factor.specs.Answers.{lent_at}
use Rattle.factor.proofs.Judging.{ground-rows, ground-columns, ground-long, ground-side, ground-settings}
use Rattle.factor.proofs.tests.judge_ground.Goals.{then-not-is_size-via-then-not-is_size, then-not-is_size-via-else-not-is_size+then-not-is_size-2}
use Rattle.factor.proofs.tests.judge_ground.Goals as goal

pub returns-then-not-is_size : goal.returns-then-not-is_size
returns-then-not-is_size c =
    let a = c.args in
    elim c.then-not-is_size.branch [
      | then-not-is_size-via-then-not-is_size w ↦ ground-rows a.rows a.columns a.side a.settings a.marks a.elevation.now (lent_at a.filled a.direction a.count a.lengths a.factors a.workspace) (sym w.if-not-is_size.ensures)
      | then-not-is_size-via-else-not-is_size+then-not-is_size-2 w ↦
          ground-columns a.rows a.columns a.side a.settings a.marks a.elevation.now (lent_at a.filled a.direction a.count a.lengths a.factors a.workspace) (sym w.if-not-is_size-2.ensures)
    ]

pub overflow_mul-rows : goal.overflow_mul-rows
overflow_mul-rows c = omega (arith, area-few c.args.rows c.args.columns (sym c.if-not-is_size.ensures) (sym c.if-not-is_size-2.ensures))

pub returns-then-not-are_long : goal.returns-then-not-are_long
returns-then-not-are_long c =
    let a = c.args in
    ground-long a.rows a.columns a.side a.settings a.marks a.elevation.now (lent_at a.filled a.direction a.count a.lengths a.factors a.workspace)
    (sym c.if-not-is_size.ensures) (sym c.if-not-is_size-2.ensures) (sym c.are_long.ensures ∙ c.if-not-are_long.true)

pub returns-then-not-is_side : goal.returns-then-not-is_side
returns-then-not-is_side c =
    let a = c.args in
    ground-side a.rows a.columns a.side a.settings a.marks a.elevation.now (lent_at a.filled a.direction a.count a.lengths a.factors a.workspace)
    (sym c.if-not-is_size.ensures) (sym c.if-not-is_size-2.ensures) (sym c.are_long.ensures ∙ c.if-not-are_long.false) (sym c.if-not-is_side.ensures)

pub returns : goal.returns
returns c =
    let a = c.args in
    rw c.judge_settings.ensures (ground-settings a.rows a.columns a.side a.settings a.marks a.elevation.now (lent_at a.filled a.direction a.count a.lengths a.factors a.workspace)
    (sym c.if-not-is_size.ensures) (sym c.if-not-is_size-2.ensures) (sym c.are_long.ensures ∙ c.if-not-are_long.false) (sym c.if-not-is_side.ensures))
