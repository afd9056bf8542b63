-- `floats::rounding::quotient` meets its contract. Assumes nothing.
use Rattle.floats.proofs.InnerRounding.{down_is, up_is, half_is}
use Rattle.floats.proofs.rounding.quotient.Goals as goal

pub returns-then-r-d : goal.returns-then-r-d
returns-then-r-d c = down_is _ _ c.requires.0 c.requires.2 c.if-r-d.true

pub returns-then-d-r : goal.returns-then-d-r
returns-then-d-r c = up_is _ _ c.requires.0 c.requires.2 c.if-d-r.true

pub returns : goal.returns
returns c = half_is _ _ c.requires.0 c.requires.2 c.if-r-d.false c.if-d-r.false
