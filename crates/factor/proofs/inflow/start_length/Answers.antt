-- `factor::inflow::start_length` meets its contract. Assumes nothing.
use mathlib.Core.Path.{sym, ap}
use mathlib.Core.Bool.{Bool, cond}
use Rattle.factor.specs.Inflow.{start_length}
use Rattle.factor.proofs.inflow.start_length.Goals as goal

pub returns-then-direction : goal.returns-then-direction
unfolding start_length
returns-then-direction c = sym (ap (λ (b : Bool). cond b 7071 5000) c.if-direction.true)

pub returns : goal.returns
unfolding start_length
returns c = sym (ap (λ (b : Bool). cond b 7071 5000) c.if-direction.false)
