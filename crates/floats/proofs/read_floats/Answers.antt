-- `floats::read_floats` meets its contract. Assumes nothing.
use mathlib.Core.Path.{◌≡◌, sym, ◌∙◌, subst}
use borrow.Author.Rules.{rules}
use Rattle.std.proofs.Common.{Err}
use Rattle.text.proofs.Sizes.{FewIn, lone-few}
use Rattle.floats.proofs.InnerCells.{floats-off, floats-on}
use Rattle.floats.proofs.read_floats.Goals as goal

pub returns-in_err-h : goal.returns-in_err-h
returns-in_err-h c =
    let e : c.from_residual.result ≡ Err c.in_err-h.field-0.0 = search rules in
    rw e (floats-off _ _ _ c.in_err-h.field-0.0 c.in_err-h.ensures)

pub read-requires : goal.read-requires
read-requires c =
    let few = subst FewIn (sym c.in_ok-h.ensures) (lone-few _) in
    record { rows_few = few.0; columns-few = few.1 }

pub returns : goal.returns
returns c = c.read.ensures ∙ floats-on c.args.heights.now _ _ c.in_ok-h.h c.in_ok-h.ensures
