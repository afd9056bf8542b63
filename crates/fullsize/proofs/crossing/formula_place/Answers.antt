-- `fullsize::crossing::formula_place` meets its contract. Assumes nothing.
use mathlib.Core.Path.{sym}
use Rattle.fullsize.proofs.Formulas.{place-first, place-second, place_none}
use Rattle.fullsize.proofs.crossing.formula_place.Goals as goal

pub returns-then-formula-gt1 : goal.returns-then-formula-gt1
returns-then-formula-gt1 c = let a = c.args in sym (place-first a.formula a.second c.if-formula-gt1.true)

pub returns-then-second-gt1 : goal.returns-then-second-gt1
returns-then-second-gt1 c = let a = c.args in sym (place-second a.formula a.second c.if-formula-gt1.false c.if-second-gt1.true)

pub returns : goal.returns
returns c = let a = c.args in sym (place_none a.formula a.second c.if-formula-gt1.false c.if-second-gt1.false)
