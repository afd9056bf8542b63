-- `sheet::lines::put_cell` meets its contract. Assumes nothing.
use native.Mathlib.Omega.{arith}
use Rattle.numerals.proofs.Writing.{wrote_as, wrote-word}
use mathlib.Core.Path.{sym}
use Rattle.numerals.specs.Words.{decimal}
use Rattle.sheet.proofs.InnerShown.{cell-line}
use Rattle.sheet.proofs.lines.put_cell.Goals as goal

pub returns : goal.returns
returns c =
    let a = c.args in (
      wrote_as (sym (cell-line a.row a.column a.cell)) (wrote-word (decimal a.row) c.put_number-a.ensures.0 (wrote-word (decimal a.column) c.put_number-b.ensures.0 c.put_shown.ensures.0)),
      omega (arith, c.put_number-a.ensures.1, c.put_number-b.ensures.1, c.put_shown.ensures.1),
    )
