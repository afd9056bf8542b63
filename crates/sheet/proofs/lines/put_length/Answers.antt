-- `sheet::lines::put_length` meets its contract. Assumes nothing.
use native.Mathlib.Omega.{arith}
use Rattle.numerals.proofs.Writing.{wrote-word}
use Rattle.numerals.specs.Words.{decimal, line}
use Rattle.sheet.proofs.lines.put_length.Goals as goal

pub returns : goal.returns
unfolding line
returns c = (wrote-word (decimal c.args.cell.length) c.put_number-a.ensures.0 c.put_factor.ensures.0, omega (arith, c.put_number-a.ensures.1, c.put_factor.ensures.1))
