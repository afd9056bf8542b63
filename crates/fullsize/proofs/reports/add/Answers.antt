-- `fullsize::reports::add` meets its contract. Assumes nothing.
use mathlib.Core.Path.{ap, ◌∙◌}
use Rattle.factor.specs.Farms.{one}
use Rattle.factor.specs.Answers.{found}
use Rattle.report.specs.Maps.{map_of}
use Rattle.fullsize.specs.Crossing.{one_formula}
use Rattle.fullsize.specs.InnerMapping.{refusal_before}
use Rattle.fullsize.proofs.ReportNumbers.{added_is, without-added, judged-found}
use Rattle.fullsize.proofs.Formulas.{one_passes, one-fails}
use Rattle.fullsize.proofs.reports.add.Goals as goal

pub returns-then-formula-gt1 : goal.returns-then-formula-gt1
returns-then-formula-gt1 c =
    let a = c.args in
    let m = map_of a.rows a.columns (one a.settings) a.count.now a.factors.now in
    without-added a.report.now m (one_formula a.formula) (one-fails a.formula c.if-formula-gt1.true)
    c.judge-judged.result (ap found c.judge-judged.ensures ∙ judged-found a.settings a.rows a.columns a.count.now a.factors.now)
    (c.refusal_before.ensures ∙ ap (refusal_before 7) c.err.ensures.value)

pub returns : goal.returns
returns c =
    let a = c.args in
    added_is a.report.now (map_of a.rows a.columns (one a.settings) a.count.now a.factors.now) (one_formula a.formula)
    (one_passes a.formula c.if-formula-gt1.false) c.add.ensures
