-- `sheet::lines::put_place` meets its contract. Assumes nothing.
use native.Mathlib.Omega.{arith}
use Rattle.numerals.proofs.Writing.{wrote-word}
use Rattle.text.specs.Bytes.{bytes}
use Rattle.numerals.specs.Words.{line}
use Rattle.sheet.proofs.lines.put_place.Goals as goal

pub returns : goal.returns
unfolding bytes line
returns c =
    let at = c.put_all-a.ensures in
    (wrote-word (bytes "at") at c.put_number.ensures.0, omega (arith, at.ends, c.put_number.ensures.1))
