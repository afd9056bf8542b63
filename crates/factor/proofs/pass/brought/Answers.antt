-- `factor::pass::brought` meets its contract. Assumes nothing.
use Rattle.factor.proofs.Lengths.{step-le, left-small}
use Rattle.factor.specs.Inner.{brought_by}
use Rattle.factor.specs.Inflow.{cutoff_for}
use native.Mathlib.Omega.{arith}
use mathlib.Core.Path.{◌∙◌}
use Rattle.factor.proofs.pass.brought.Goals as goal

pub amount_of-requires : goal.amount_of-requires
amount_of-requires c =
    let rules = c.requires.4.0 in
    let n = cutoff_for rules.low rules.high c.args.side c.args.q in (
      omega (arith, c.left_for-left.ensures rules c.requires.4.1, left-small n),
      c.requires.2,
      c.requires.1,
      omega (arith, c.step_over.ensures, step-le c.args.k),
      c.requires.3,
    )

pub returns : goal.returns
unfolding brought_by
returns c = λ rules r. c.amount_of.ensures _ (c.left_for-left.ensures rules r) ∙ rw c.step_over.ensures
