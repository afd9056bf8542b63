-- `sheet::lines::put_flow` meets its contract. Assumes nothing.
use native.Mathlib.Omega.{arith}
use Rattle.numerals.proofs.Writing.{wrote-word}
use Rattle.numerals.specs.Words.{decimal, line}
use Rattle.sheet.proofs.InnerShown.{number-as}
use Rattle.sheet.proofs.lines.put_flow.Goals as goal

pub returns : goal.returns
unfolding line
returns c = (wrote-word (decimal c.args.cell.direction) (number-as 32 c.from.ensures c.put_number-a.ensures.0) (wrote-word (decimal c.args.cell.count) (number-as 32 c.from-2.ensures c.put_number-b.ensures.0) c.put_length.ensures.0), omega (arith, c.put_number-a.ensures.1, c.put_number-b.ensures.1, c.put_length.ensures.1))
