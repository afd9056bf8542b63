-- `factor::tests::judge_rest` meets its contract. Assumes nothing.
use mathlib.Core.Path.{sym}
use Rattle.std.proofs.lemmas.Result.{err_from_is_err_and}
use Rattle.factor.proofs.Judging.{rest-found, rest-marked, rest-passed}
use Rattle.factor.proofs.tests.judge_rest.Goals as goal

pub returns-in_err-second : goal.returns-in_err-second
returns-in_err-second c =
    let a = c.args in
    let p = err_from_is_err_and c.from_residual.result c.from_residual.ensures.1 in
    rw (p.1, p.2) (rest-found a.first a.second a.marks.now c.in_err-second.ensures)

pub returns-in-Some : goal.returns-in-Some
returns-in-Some c =
    let a = c.args in
    rest-marked a.first a.second a.marks.now c.in_ok-second.ensures (sym c.in-Some.ensures)

pub returns-in-None : goal.returns-in-None
returns-in-None c =
    let a = c.args in
    rest-passed a.first a.second a.marks.now c.in_ok-second.ensures (sym c.in-None.ensures)
