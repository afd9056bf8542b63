-- `report::tests::judge_farms` meets its contract. Assumes nothing.
use mathlib.Core.Path.{refl, sym}
use mathlib.Core.List.{[], ◌∷◌}
use native.Mathlib.Omega.{arith}
use lib.ListN.{length}
use Rattle.std.proofs.lemmas.Result.{err_from_is_err_and}
use Rattle.report.proofs.InnerJudging.{shape-fails, shape-passes, shape-long, same-lengths, found-rules, found-bad, farms-refused, farms-settings, farms-rest}
use Rattle.report.proofs.tests.judge_farms.Goals as goal

pub returns-in_err-judge_shape : goal.returns-in_err-judge_shape
returns-in_err-judge_shape c =
    let a = c.args in
    let e = same-lengths a.rows a.columns a.marks.now a.count.now a.factors.now c.in_err-judge_shape.ensures (omega arith) (omega arith) (omega arith) in
    let p = err_from_is_err_and c.from_residual.result c.from_residual.ensures.1 in
    rw (p.1, p.2)
    (farms-refused a.rows a.columns a.first a.second a.marks.now a.count.now a.factors.now refl (sym (shape-fails _ e)))

pub returns-in_err-rules : goal.returns-in_err-rules
returns-in_err-rules c =
    let a = c.args in
    let e = same-lengths a.rows a.columns a.marks.now a.count.now a.factors.now c.in_ok-judge_shape.ensures (omega arith) (omega arith) (omega arith) in
    let p = err_from_is_err_and c.from_residual-in_err-rules.result c.from_residual-in_err-rules.ensures.1 in
    let w = found-bad a.first c.in_err-rules.ensures in
    rw (p.1, p.2)
    (farms-settings a.rows a.columns a.first a.second a.marks.now a.count.now a.factors.now (shape-passes _ e) w.2 w.1)

pub returns : goal.returns
returns c =
    let a = c.args in
    let e = same-lengths a.rows a.columns a.marks.now a.count.now a.factors.now c.in_ok-judge_shape.ensures (omega arith) (omega arith) (omega arith) in
    let l = length a.marks.now ∷ length a.count.now ∷ length a.factors.now ∷ [] in
    farms-rest a.rows a.columns a.first a.second a.marks.now a.count.now a.factors.now (shape-passes _ e)
    (shape-long a.rows a.columns l e) (found-rules a.first c.in_ok-rules.ensures) c.judge_rest.ensures
