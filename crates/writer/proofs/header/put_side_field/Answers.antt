-- `writer::header::put_side_field` meets its contract. Assumes nothing.
use mathlib.Core.Path.{ap}
use Prim.Native.Nat.{◌/◌}
use native.Mathlib.Omega.{arith}
use Rattle.numerals.specs.Words.{fixed}
use Rattle.numerals.proofs.Decimal.{fixed-length, decimal-short}
use Rattle.numerals.proofs.Writing.{wrote_as}
use Rattle.writer.proofs.InnerHeader.{wrote-field}
use Rattle.writer.proofs.header.put_side_field.Goals as goal

pub overflow_add-result : goal.overflow_add-result
overflow_add-result c =
    let w = wrote_as (ap (fixed 2) c.from.ensures) c.put_fixed-b.ensures in
    omega (arith, c.put_all.ensures.1, w.ends, fixed-length 2 c.args.n, decimal-short 19 (c.args.n / 100) (omega (arith, c.ranges.n)), c.requires.1)

pub returns : goal.returns
returns c =
    let n = c.put_all.ensures in
    let w = wrote_as (ap (fixed 2) c.from.ensures) c.put_fixed-b.ensures in (
      wrote-field c.args.name.now (fixed 2 c.args.n) c.args.at n.0 n.1 c.put.ensures w c.put-2.ensures,
      omega (arith, n.1, w.ends, fixed-length 2 c.args.n, decimal-short 19 (c.args.n / 100) (omega (arith, c.ranges.n)), c.requires.1),
    )
