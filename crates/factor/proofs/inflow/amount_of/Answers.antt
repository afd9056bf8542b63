-- `factor::inflow::amount_of` meets its contract. Assumes nothing.
use mathlib.Core.Path.{sym, ◌∙◌}
use Rattle.factor.specs.Inflow.{amount_of}
use Rattle.factor.proofs.inflow.amount_of.Goals as goal

pub returns-then-q-p : goal.returns-then-q-p
unfolding amount_of
returns-then-q-p c = λ n e. simp c.if-q-p.true

pub returns-then-is_cut : goal.returns-then-is_cut
unfolding amount_of
returns-then-is_cut c = λ n e. simp (c.if-q-p.false, sym (c.is_cut.ensures n e) ∙ c.if-is_cut.true)

pub returns : goal.returns
unfolding amount_of
returns c = λ n e. simp (c.if-q-p.false, sym (c.is_cut.ensures n e) ∙ c.if-is_cut.false)
