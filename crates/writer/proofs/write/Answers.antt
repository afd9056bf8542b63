-- `writer::write` meets its contract. Assumes nothing.
use Rattle.std.proofs.lemmas.Result.{err_from_is_err_and}
use Rattle.writer.specs.InnerFrame.{frame_of}
use Rattle.writer.specs.InnerCells.{good_cells}
use Rattle.writer.proofs.InnerAnswers.{frame-refuses}
use Rattle.writer.proofs.write.Goals as goal

pub returns-in_err-judge : goal.returns-in_err-judge
returns-in_err-judge g c =
    let e = err_from_is_err_and c.from_residual.result c.from_residual.ensures.1 in
    let p = frame-refuses (frame_of c.args.frame) (good_cells g.W.Word.word c.args.cells.now) c.args.room.now c.in_err-judge.field-0.0 c.in_err-judge.ensures in
    rw (e.1, e.2) (record { answers = p.answers; leaves = p.leaves })
