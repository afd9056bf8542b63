-- `factor::tests::judge_farms` meets its contract. Assumes nothing.
use mathlib.Core.Path.{refl}
use Rattle.std.proofs.lemmas.Result.{err_from_is_err_and}
use Rattle.factor.specs.Answers.{lent_at}
use Rattle.factor.proofs.Judgements.{farms-refused, farms-rest}
use Rattle.factor.proofs.tests.judge_farms.Goals as goal

pub returns-in_err-first : goal.returns-in_err-first
returns-in_err-first c =
    let a = c.args in
    let p = err_from_is_err_and c.from_residual.result c.from_residual.ensures.1 in
    rw (p.1, p.2)
    (farms-refused a.rows a.columns a.side a.first a.second a.marks.now a.elevation.now (lent_at a.filled a.direction a.count a.lengths a.factors a.workspace)
    refl (c.in_err-first.ensures a.second a.marks.now refl))

pub returns : goal.returns
returns c =
    let a = c.args in
    let w = c.in_ok-first.ensures in
    let left = w.1 a.second a.marks.now refl in
    farms-rest a.rows a.columns a.side a.first a.second a.marks.now a.elevation.now (lent_at a.filled a.direction a.count a.lengths a.factors a.workspace)
    left.1 left.0 w.0 c.judge_rest.ensures
