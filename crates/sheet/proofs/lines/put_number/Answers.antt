-- `sheet::lines::put_number` meets its contract. Assumes nothing.
use native.Mathlib.Omega.{arith}
use Rattle.numerals.proofs.Writing.{wrote_then}
use Rattle.numerals.proofs.Decimal.{decimal-short}
use Rattle.sheet.proofs.lines.put_number.Goals as goal

pub put-requires : goal.put-requires
put-requires c = omega (arith, c.put_natural-next.ensures.ends, decimal-short 19 c.args.n (omega (arith, c.ranges.n)))

pub returns : goal.returns
returns c = (wrote_then c.put_natural-next.ensures c.put.ensures, omega (arith, c.put_natural-next.ensures.ends, c.put.ensures.ends, decimal-short 19 c.args.n (omega (arith, c.ranges.n))))
