-- `fullsize::farms::add` meets its contract. Assumes nothing.
use mathlib.Core.Path.{sym, ap, ◌∙◌}
use Rattle.factor.specs.Farms.{two}
use Rattle.report.specs.Maps.{map_of}
use Rattle.fullsize.specs.Crossing.{two_formulas}
use Rattle.fullsize.specs.InnerMapping.{refusal_before}
use Rattle.fullsize.proofs.Formulas.{two-passes}
use Rattle.fullsize.proofs.ReportNumbers.{added_is, two-added}
use Rattle.fullsize.proofs.farms.add.Goals as goal

pub returns-in-Some : goal.returns-in-Some
returns-in-Some c =
    let a = c.args in
    two-added a.report.now a.rows a.columns a.first a.second a.marks.now a.count.now a.factors.now a.formula a.formula1
    (sym c.formula_place.ensures ∙ c.in-Some.is) c.judge_farms-judged.ensures
    (c.refusal_before.ensures ∙ ap (refusal_before c.in-Some.place) c.err.ensures.value)

pub returns : goal.returns
returns c =
    let a = c.args in
    let passes = two-passes a.formula a.formula1 (sym c.formula_place.ensures ∙ c.in_default.is) in
    added_is a.report.now (map_of a.rows a.columns (two a.first a.second a.marks.now) a.count.now a.factors.now)
    (two_formulas a.formula a.formula1) passes c.add_farms.ensures
