-- `sheet::lines::put_shape` meets its contract. Assumes nothing.
use native.Mathlib.Omega.{arith}
use Rattle.numerals.proofs.Writing.{wrote-word}
use Rattle.numerals.specs.Words.{decimal, line}
use Rattle.sheet.specs.Lines.{shape_line}
use Rattle.sheet.proofs.lines.put_shape.Goals as goal

pub returns : goal.returns
unfolding line shape_line
returns c = (wrote-word (decimal c.args.shape.rows) c.put_number-a.ensures.0 (wrote-word (decimal c.args.shape.columns) c.put_number-b.ensures.0 c.put_summary.ensures.0), omega (arith, c.put_number-a.ensures.1, c.put_number-b.ensures.1, c.put_summary.ensures.1))
