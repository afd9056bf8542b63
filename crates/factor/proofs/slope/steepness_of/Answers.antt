-- `factor::slope::steepness_of` meets its contract. Assumes nothing.
use borrow.Author.Tests.{eq-eqb, ne_eqb}
use Rattle.factor.specs.Inner.{steepness_of}
use Rattle.factor.proofs.slope.steepness_of.Goals as goal

pub returns-then-fall-eq0 : goal.returns-then-fall-eq0
unfolding steepness_of
returns-then-fall-eq0 c = simp (eq-eqb _ 0 c.if-fall-eq0.true, c.from-drop.ensures)

pub returns : goal.returns
unfolding steepness_of
returns c = simp (ne_eqb _ 0 c.if-fall-eq0.false, c.from-drop.ensures)
