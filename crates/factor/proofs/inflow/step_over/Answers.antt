-- `factor::inflow::step_over` meets its contract. Assumes nothing.
use borrow.Author.Tests.{eq-eqb, ne_eqb}
use Rattle.factor.specs.Inflow.{step_over}
use Rattle.factor.proofs.inflow.step_over.Goals as goal

pub returns-then-k-eq0 : goal.returns-then-k-eq0
unfolding step_over
returns-then-k-eq0 c = simp (eq-eqb _ 0 c.if-k-eq0.true)

pub returns : goal.returns
unfolding step_over
returns c = simp (ne_eqb _ 0 c.if-k-eq0.false)
