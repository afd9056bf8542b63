-- `factor::pass::left_for` meets its contract. Assumes nothing.
use Rattle.factor.proofs.Percents.{cutoff-chosen}
use Rattle.factor.specs.Inner.{left_by}
use mathlib.Core.Path.{sym, ap, ◌∙◌}
use Rattle.factor.proofs.pass.left_for.Goals as goal

pub returns-then-is_at_least : goal.returns-then-is_at_least
returns-then-is_at_least c =
    λ rules r. r.high_is ∙ ap left_by (cutoff-chosen rules.low rules.high _ _ _
    (sym c.is_at_least.ensures ∙ c.if-is_at_least.true))

pub returns : goal.returns
returns c =
    λ rules r. r.low-is ∙ ap left_by (cutoff-chosen rules.low rules.high _ _ _
    (sym c.is_at_least.ensures ∙ c.if-is_at_least.false))
