-- `terrain::judge` meets its contract. Assumes nothing.
use Rattle.std.proofs.Common.{sym, ◌∙◌, arith}
use Rattle.text.proofs.Accepted.{area-few}
use Rattle.terrain.specs.Answers.{lent}
use Rattle.terrain.proofs.Answers.{judged-rows, judged-columns, judged-long, judged-height, judged-passes}
use Rattle.terrain.proofs.judge.Goals.{then-not-is_size-via-then-not-is_size, then-not-is_size-via-else-not-is_size+then-not-is_size-2}
use Rattle.terrain.proofs.judge.Goals as goal

pub returns-then-not-is_size : goal.returns-then-not-is_size
returns-then-not-is_size c =
    let a = c.args in
    let g = lent a.filled.now a.direction.now a.count.now a.falls.now a.workspace.now in
    elim c.then-not-is_size.branch [
      | then-not-is_size-via-then-not-is_size w ↦ sym (judged-rows a.rows a.columns a.elevation.now g (sym c.is_size.ensures ∙ w.if-not-is_size.true))
      | then-not-is_size-via-else-not-is_size+then-not-is_size-2 w ↦ sym (judged-columns a.rows a.columns a.elevation.now g (sym w.is_size-else-not-is_size.ensures ∙ w.if-not-is_size-2.true))
    ]

pub overflow_mul-cells : goal.overflow_mul-cells
overflow_mul-cells c =
    let r = sym c.is_size.ensures ∙ c.if-not-is_size.false in
    let l = sym c.is_size-else-not-is_size.ensures ∙ c.if-not-is_size-2.false in
    omega (arith, area-few c.args.rows c.args.columns r l)

pub returns-then-not-are_long : goal.returns-then-not-are_long
returns-then-not-are_long c =
    let a = c.args in
    let g = lent a.filled.now a.direction.now a.count.now a.falls.now a.workspace.now in
    let r = sym c.is_size.ensures ∙ c.if-not-is_size.false in
    let l = sym c.is_size-else-not-is_size.ensures ∙ c.if-not-is_size-2.false in
    sym (judged-long a.rows a.columns a.elevation.now g r l (sym c.are_long.ensures ∙ c.if-not-are_long.true))

pub returns-in-Some : goal.returns-in-Some
returns-in-Some c =
    let a = c.args in
    let g = lent a.filled.now a.direction.now a.count.now a.falls.now a.workspace.now in
    let r = sym c.is_size.ensures ∙ c.if-not-is_size.false in
    let l = sym c.is_size-else-not-is_size.ensures ∙ c.if-not-is_size-2.false in
    sym (judged-height a.rows a.columns a.elevation.now g r l (sym c.are_long.ensures ∙ c.if-not-are_long.false) c.in-Some.ensures)

pub returns : goal.returns
returns c =
    let a = c.args in
    let g = lent a.filled.now a.direction.now a.count.now a.falls.now a.workspace.now in
    let r = sym c.is_size.ensures ∙ c.if-not-is_size.false in
    let l = sym c.is_size-else-not-is_size.ensures ∙ c.if-not-is_size-2.false in
    sym (judged-passes a.rows a.columns a.elevation.now g r l (sym c.are_long.ensures ∙ c.if-not-are_long.false) (sym c.in_default.is ∙ c.first_bad.ensures))
