-- `fullsize::farms::map` meets its contract. Assumes nothing.
use mathlib.Core.Path.{sym, ap, ◌∙◌}
use Rattle.fullsize.specs.InnerMapping.{refusal_before}
use Rattle.fullsize.proofs.Formulas.{two-passes}
use Rattle.fullsize.proofs.Maps.{answer-is, after_is, two-answers, two-leaves}
use Rattle.fullsize.proofs.farms.map.Goals as goal

pub returns-in-Some-clause-answers : goal.returns-in-Some-clause-answers
returns-in-Some-clause-answers c =
    two-answers _ _ _ _ _ _ _ _ _ _ _ (sym c.formula_place.ensures ∙ c.in-Some.is) c.judge_farms-judged.ensures
    (c.refusal_before.ensures ∙ ap (refusal_before c.in-Some.place) c.err.ensures.value)

pub returns-in-Some-clause-leaves : goal.returns-in-Some-clause-leaves
returns-in-Some-clause-leaves c = two-leaves _ _ _ _ _ _ _ _ _ _ _ (sym c.formula_place.ensures ∙ c.in-Some.is) c.judge_farms-judged.ensures

pub returns-clause-answers : goal.returns-clause-answers
returns-clause-answers c =
    answer-is _ _ _ _ _ _ _ _ (two-passes c.args.formula c.args.formula1 (sym c.formula_place.ensures ∙ c.in_default.is)) c.map_farms.ensures.answers

pub returns-clause-leaves : goal.returns-clause-leaves
returns-clause-leaves c =
    after_is _ _ _ _ _ _ _ _ (two-passes c.args.formula c.args.formula1 (sym c.formula_place.ensures ∙ c.in_default.is)) c.map_farms.ensures.leaves
