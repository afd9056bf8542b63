-- `report::tests::judge` meets its contract. Assumes nothing.
use Rattle.std.proofs.lemmas.Result.{err_from_is_err_and}
use Rattle.report.proofs.InnerJudging.{shape-fails, shape-passes, one-refused, one-judged}
use Rattle.report.proofs.tests.judge.Goals as goal

pub returns-in_err-judge_shape : goal.returns-in_err-judge_shape
returns-in_err-judge_shape c =
    let p = err_from_is_err_and c.from_residual.result c.from_residual.ensures.1 in
    rw (p.1, p.2) (one-refused _ _ (shape-fails _ c.in_err-judge_shape.ensures))

pub returns : goal.returns
returns c =
    one-judged _ _ (shape-passes _ c.in_ok-judge_shape.ensures) c.judge_settings.ensures
