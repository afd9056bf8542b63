-- `writer::header::put_count_field` meets its contract. Assumes nothing.
use native.Mathlib.Omega.{arith}
use Rattle.numerals.specs.Words.{decimal}
use Rattle.numerals.proofs.Writing.{wrote-laid}
use Rattle.writer.proofs.InnerHeader.{wrote-field}
use Rattle.writer.proofs.header.put_count_field.Goals as goal

pub returns : goal.returns
returns c =
    let n = c.put_all.ensures in (
      wrote-field c.args.name.now (decimal c.args.n) c.args.at n.0 n.1
          c.put.ensures (wrote-laid _ _ c.put_natural.ensures.0.0 c.put_natural.ensures.0.1) c.put-2.ensures,
      omega (arith, n.1, c.put_natural.ensures.1, c.requires.1),
    )
