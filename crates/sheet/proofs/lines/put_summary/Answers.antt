-- `sheet::lines::put_summary` meets its contract. Assumes nothing.
use native.Mathlib.Omega.{arith}
use Rattle.numerals.proofs.Writing.{wrote-word}
use Rattle.numerals.specs.Words.{decimal, line}
use Rattle.sheet.proofs.InnerShown.{number-as}
use Rattle.sheet.proofs.lines.put_summary.Goals as goal

pub returns : goal.returns
unfolding line
returns c = (wrote-word (decimal c.args.shape.side) (number-as 32 c.from.ensures c.put_number-a.ensures.0) (wrote-word (decimal c.args.shape.valid) (number-as 32 c.from-2.ensures c.put_number-b.ensures.0) (number-as 10 c.from-3.ensures c.put_number.ensures.0)), omega (arith, c.put_number-a.ensures.1, c.put_number-b.ensures.1, c.put_number.ensures.1))
