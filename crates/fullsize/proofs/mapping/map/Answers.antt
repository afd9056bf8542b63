-- `fullsize::mapping::map` meets its contract. Assumes nothing.
use mathlib.Core.Path.{ap, ◌∙◌}
use Rattle.fullsize.specs.InnerMapping.{refusal_before}
use Rattle.fullsize.proofs.Maps.{answer-is, after_is, without-answers, without-leaves}
use Rattle.fullsize.proofs.Formulas.{one_passes, one-fails}
use Rattle.fullsize.proofs.mapping.map.Goals as goal

pub returns-then-formula-gt1-clause-answers : goal.returns-then-formula-gt1-clause-answers
returns-then-formula-gt1-clause-answers c =
    without-answers _ _ _ _ _ _ _ _ (one-fails c.args.formula c.if-formula-gt1.true) c.judge-judged.result c.judge-judged.ensures.verdict-is
    (c.refusal_before.ensures ∙ ap (refusal_before 7) c.err.ensures.value)

pub returns-then-formula-gt1-clause-leaves : goal.returns-then-formula-gt1-clause-leaves
returns-then-formula-gt1-clause-leaves c =
    without-leaves _ _ _ _ _ _ _ _ (one-fails c.args.formula c.if-formula-gt1.true) c.judge-judged.result c.judge-judged.ensures.verdict-is

pub returns-clause-answers : goal.returns-clause-answers
returns-clause-answers c = answer-is _ _ _ _ _ _ _ _ (one_passes c.args.formula c.if-formula-gt1.false) c.map.ensures.answers

pub returns-clause-leaves : goal.returns-clause-leaves
returns-clause-leaves c = after_is _ _ _ _ _ _ _ _ (one_passes c.args.formula c.if-formula-gt1.false) c.map.ensures.leaves
