-- `factor::exponent::exponent_of` meets its contract. Assumes nothing.
use mathlib.Core.Path.{refl, sym, ◌∙◌}
use Rattle.factor.proofs.Percents.{exponent-chosen}
use Rattle.factor.proofs.exponent.exponent_of.Goals as goal

pub returns-then-is_at_least : goal.returns-then-is_at_least
returns-then-is_at_least c = exponent-chosen _ _ _ _ _ (sym c.is_at_least.ensures ∙ c.if-is_at_least.true) refl refl

pub returns-then-is_above : goal.returns-then-is_above
returns-then-is_above c = exponent-chosen _ _ _ _ _ (sym c.is_at_least.ensures ∙ c.if-is_at_least.false) (sym c.is_above.ensures ∙ c.if-is_above.true) refl

pub returns-then-is_at_least-2 : goal.returns-then-is_at_least-2
returns-then-is_at_least-2 c =
    exponent-chosen _ _ _ _ _ (sym c.is_at_least.ensures ∙ c.if-is_at_least.false) (sym c.is_above.ensures ∙ c.if-is_above.false)
    (sym c.is_at_least-2.ensures ∙ c.if-is_at_least-2.true)

pub returns : goal.returns
returns c =
    exponent-chosen _ _ _ _ _ (sym c.is_at_least.ensures ∙ c.if-is_at_least.false) (sym c.is_above.ensures ∙ c.if-is_above.false)
    (sym c.is_at_least-2.ensures ∙ c.if-is_at_least-2.false)
