-- `text::headers::is_named` meets its contract. Assumes nothing.
use mathlib.Core.Path.{sym, ◌∙◌}
use native.Mathlib.Omega.{arith}
use Rattle.text.proofs.InnerNames.{named-unlike, named_other, named_more, named_end}
use Rattle.text.proofs.headers.is_named.Goals as goal

pub returns-then-e-a : goal.returns-then-e-a
returns-then-e-a c = named-unlike _ _ _ _ (omega arith) c.if-e-a.true

pub returns-then-lower_case-n : goal.returns-then-lower_case-n
returns-then-lower_case-n c =
    sym (c.loop-i.invariant ∙ named_other _ _ _ _ _ c.loop-i-test.true (omega arith) (λ q. c.if-lower_case-n.true (c.lower_case.ensures ∙ q)))

pub loop-i-preserved : goal.loop-i-preserved
loop-i-preserved c =
    c.loop-i.invariant ∙ named_more _ _ _ _ _ c.loop-i-test.true (omega arith) (sym c.lower_case.ensures ∙ c.if-lower_case-n.false)

pub returns : goal.returns
returns c = named_end _ _ _ _ _ c.loop-i-test.false (omega arith) ∙ sym c.loop-i.invariant
