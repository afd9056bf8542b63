-- `text::heights::read` meets its contract. Assumes nothing.
use mathlib.Core.Path.{◌≡◌, sym, ap}
use borrow.Author.Rules.{rules}
use mir.Syntax.{w64}
use mir.Val.{to_z, of_z}
use Rattle.std.proofs.Common.{Err}
use Rattle.text.specs.Answers.{header_of}
use Rattle.text.specs.InnerHeights.{body_outcome}
use Rattle.text.proofs.InnerGrids.{body-off}
use Rattle.text.proofs.heights.read.Goals as goal

pub returns-in_err-rest : goal.returns-in_err-rest
returns-in_err-rest c =
    let a = c.args in
    let bits : to_z w64 (of_z w64 a.header.no_data) ≡ a.header.no_data = search rules in
    let e : c.from_residual.result ≡ Err c.in_err-rest.field-0.0 = search rules in
    rw e (ap (body_outcome (header_of a.header) a.out.now) (sym (body-off _ _ _ _ c.if-out-header.false _ _ (sym (rw bits at c.in_err-rest.ensures)))))
