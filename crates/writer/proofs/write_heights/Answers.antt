-- `writer::write_heights` meets its contract. Assumes nothing.
use mathlib.Core.Path.{sym, ◌∙◌}
use Rattle.std.proofs.lemmas.Result.{err_from_is_err_and}
use Rattle.writer.specs.Text.{frame}
use Rattle.writer.specs.Answers.{height_cells}
use Rattle.writer.proofs.InnerAnswers.{frame-refuses, heights-refuse, heights-good}
use Rattle.writer.proofs.write_heights.Goals as goal

pub returns-in_err-judge : goal.returns-in_err-judge
unfolding height_cells
returns-in_err-judge c =
    let e = err_from_is_err_and c.from_residual.result c.from_residual.ensures.1 in
    let a = c.args in
    let f = frame a.rows a.columns a.side a.x.now a.y.now in
    let p = frame-refuses f (height_cells f a.heights.now) a.room.now c.in_err-judge.field-0.0 c.in_err-judge.ensures in
    rw (e.1, e.2) (record { answers = p.answers; leaves = p.leaves })

pub returns-in-Some : goal.returns-in-Some
returns-in-Some c =
    let a = c.args in
    let p = heights-refuse _ a.heights.now a.room.now (sym c.in_ok-judge.ensures) c.in-Some.ensures in
    record { answers = p.answers; leaves = p.leaves }

pub returns : goal.returns
returns c =
    let a = c.args in
    let p = heights-good _ a.heights.now a.room.now (sym c.in_ok-judge.ensures) (sym c.in_default.is ∙ c.first_bad.ensures)
    (record { answers = c.put_text.ensures.answers; leaves = c.put_text.ensures.leaves }) in
    record { answers = p.answers; leaves = p.leaves }
