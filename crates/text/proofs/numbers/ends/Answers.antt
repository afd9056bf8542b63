-- `text::numbers::ends` meets its contract. Assumes nothing.
use Rattle.text.proofs.Ends.{ends-in, ends-past}
use Rattle.text.proofs.numbers.ends.Goals as goal

pub returns-then-i-s : goal.returns-then-i-s
returns-then-i-s c = ends-in _ _ _ c.if-i-s.true c.is_blank.ensures

pub returns : goal.returns
returns c = ends-past _ _ c.if-i-s.false
