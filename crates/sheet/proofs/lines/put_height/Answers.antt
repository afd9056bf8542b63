-- `sheet::lines::put_height` meets its contract. Assumes nothing.
use mathlib.Core.Path.{ap}
use mir.Facts.{to_z-of_z}
use Rattle.numerals.specs.Words.{integer}
use native.Mathlib.Omega.{arith}
use Rattle.numerals.proofs.Writing.{wrote_as, wrote_then}
use Rattle.numerals.proofs.Signs.{integer-short}
use Rattle.sheet.proofs.lines.put_height.Goals as goal

pub put-requires : goal.put-requires
put-requires c =
    let e = to_z-of_z c.ranges.height in
    omega (arith, rw e at c.put_integer-next.ensures.ends, integer-short c.args.height c.ranges.height)

pub returns : goal.returns
returns c =
    let height = wrote_as (ap integer (to_z-of_z c.ranges.height)) c.put_integer-next.ensures in
    (wrote_then height c.put.ensures, omega (arith, height.ends, c.put.ensures.ends, integer-short c.args.height c.ranges.height))
