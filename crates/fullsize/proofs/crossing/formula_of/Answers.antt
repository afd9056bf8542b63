-- `fullsize::crossing::formula_of` meets its contract. Assumes nothing.
use native.Mathlib.Omega.{arith}
use borrow.Author.Tests.{ne_eqb}
use Rattle.fullsize.specs.Crossing.{formula_of}
use Rattle.fullsize.proofs.crossing.formula_of.Goals as goal

pub returns-in-0 : goal.returns-in-0
unfolding formula_of
returns-in-0 c = rw c.in-0.is

pub returns-in_default : goal.returns-in_default
unfolding formula_of
returns-in_default c = simp (ne_eqb c.args.number 0 (λ e. omega arith))
