-- `report::add` meets its contract. Assumes nothing.
use mathlib.Core.Path.{sym, ap, ◌∙◌}
use native.Mathlib.Omega.{arith}
use Rattle.std.proofs.lemmas.Result.{err_from_is_err_and}
use Rattle.report.specs.Answers.{after_join}
use Rattle.report.proofs.InnerAdditions.{judged-unsound, judged-sound, passed-long, passed-few}
use Rattle.report.proofs.Additions.{add-joins}
use Rattle.report.proofs.add.Goals as goal

pub report_of-requires : goal.report_of-requires
report_of-requires c =
    let p = (judged-sound _ _ c.in_ok-rules.ensures).0 in
    let w = passed-long _ p in
    (omega (arith, w.0, passed-few _ p), w.1 ∙ sym w.0)

pub returns-in_err-rules : goal.returns-in_err-rules
returns-in_err-rules c =
    let p = err_from_is_err_and c.from_residual.result c.from_residual.ensures.1 in
    rw (p.1, p.2) (judged-unsound _ _ _ c.in_err-rules.ensures)

pub returns : goal.returns
returns c =
    let a = c.args in
    let p = judged-sound _ _ c.in_ok-rules.ensures in
    c.join.ensures
    ∙ ap (after_join a.report.now) (c.report_of.ensures a.rows a.columns a.settings p.1 (sym (passed-long _ p.0).0))
    ∙ sym (add-joins a.report.now _ p.0)
