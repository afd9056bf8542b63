-- `writer::words::fixed_length` meets its contract. Assumes nothing.
use mathlib.Core.Path.{ap}
use Prim.Native.Nat.{ℕ, ◌/◌}
use native.Mathlib.Omega.{arith}
use lib.ListN.{length}
use Rattle.std.proofs.Math.Nat.{one-le-pow}
use Rattle.numerals.specs.Words.{decimal}
use Rattle.numerals.proofs.Decimal.{fixed-length}
use Rattle.writer.proofs.words.fixed_length.Goals as goal

pub nonzero_div-n : goal.nonzero_div-n
nonzero_div-n g c = omega (arith, c.pow.ensures, one-le-pow g.row.DECIMALS 10 (omega arith))

pub returns : goal.returns
returns g c =
    let d = g.row.DECIMALS in
    let whole = ap (λ (k : ℕ). length (decimal (c.args.n / k))) c.pow.ensures in
    (omega (arith, c.digit_count.ensures.0, whole, fixed-length d c.args.n), omega (arith, c.digit_count.ensures.1))
