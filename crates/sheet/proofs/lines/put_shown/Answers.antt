-- `sheet::lines::put_shown` meets its contract. Assumes nothing.
use borrow.Author.Rules.{rules}
use mathlib.Core.Path.{sym, ap}
use native.Mathlib.Omega.{arith}
use lib.IntN.{ℤ}
use Rattle.text.specs.Bytes.{bytes}
use Rattle.text.specs.Heights.{same}
use Rattle.text.specs.Quantities.{no_data_height}
use Rattle.text.proofs.Accepted.{bits_none, none-bits}
use Rattle.numerals.specs.Words.{line}
use Rattle.numerals.proofs.Writing.{wrote_as}
use Rattle.sheet.proofs.InnerShown.{shown-none, shown-values}
use Rattle.text.proofs.Accepted.{same_not}
use Rattle.sheet.proofs.lines.put_shown.Goals as goal

pub returns-then-cell-eq-NO_DATA : goal.returns-then-cell-eq-NO_DATA
unfolding bytes line
returns-then-cell-eq-NO_DATA c =
    let put = c.put_all.ensures in
    (wrote_as (ap line (sym (shown-none c.args.cell (ap (λ (z : ℤ). same z no_data_height) (bits_none c.args.cell.elevation (search rules) c.if-cell-eq-NO_DATA.true))))) put, omega (arith, put.ends))

pub returns : goal.returns
returns c = (wrote_as (ap line (sym (shown-values c.args.cell (same_not c.args.cell.elevation (none-bits c.args.cell.elevation c.if-cell-eq-NO_DATA.false))))) c.put_values.ensures.0, c.put_values.ensures.1)
