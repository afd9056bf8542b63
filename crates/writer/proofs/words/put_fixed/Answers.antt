-- `writer::words::put_fixed` meets its contract. Assumes nothing.
use native.Mathlib.Omega.{arith}
use Rattle.std.proofs.Math.Nat.{one-le-pow}
use Rattle.numerals.proofs.Decimal.{padded-length}
use Rattle.writer.proofs.InnerWords.{wrote-fixed}
use Rattle.writer.proofs.words.put_fixed.Goals as goal

pub nonzero_div-n : goal.nonzero_div-n
nonzero_div-n g c = omega (arith, c.pow.ensures, one-le-pow g.row.DECIMALS 10 (omega arith))

pub overflow_add-result-2 : goal.overflow_add-result-2
overflow_add-result-2 g c = omega (arith, c.put_padded.ensures.1, padded-length g.row.DECIMALS c.args.n)

pub returns : goal.returns
returns g c =
    let n = rw c.pow.ensures at c.put_natural.ensures in
    wrote-fixed g.row.DECIMALS c.args.n c.args.at n.0.0 n.0.1 c.put.ensures c.put_padded.ensures.0 c.put_padded.ensures.1
