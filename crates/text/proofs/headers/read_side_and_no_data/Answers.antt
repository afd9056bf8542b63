-- `text::headers::read_side_and_no_data` meets its contract. Assumes nothing.
use mathlib.Core.Path.{◌≡◌, sym, ◌∙◌}
use borrow.Author.Rules.{rules}
use mir.Syntax.{w64}
use mir.Val.{to_z, of_z}
use Rattle.std.proofs.Common.{Err}
use Rattle.text.specs.Bytes.{bytes}
use Rattle.text.specs.Headers.{side}
use Rattle.text.proofs.InnerFields.{field_off, field-on, last-no-side, last-no-data, last_on}
use Rattle.text.proofs.headers.read_side_and_no_data.Goals as goal

pub returns-in_err-read_name : goal.returns-in_err-read_name
unfolding bytes
returns-in_err-read_name c =
    let e : c.from_residual.result ≡ Err c.in_err-read_name.field-0.0 = search rules in
    rw e (last-no-side _ _ _ _ _ _ (sym (field_off side _ _ _ _ _ (sym c.in_err-read_name.ensures))), tt)

pub returns-in_err-side : goal.returns-in_err-side
unfolding bytes
returns-in_err-side c =
    let e : c.from_residual-in_err-side.result ≡ Err c.in_err-side.field-0.0 = search rules in
    rw e (last-no-side _ _ _ _ _ _ (sym (c.in_err-side.ensures ∙ field-on side _ _ _ _ (sym c.in_ok-read_name.ensures))), tt)

pub returns-in_err-no_data : goal.returns-in_err-no_data
unfolding bytes
returns-in_err-no_data c =
    let e : c.from_residual-in_err-no_data.result ≡ Err c.in_err-no_data.field-0.0 = search rules in
    let m = sym (c.in_ok-side.ensures ∙ field-on side _ _ _ _ (sym c.in_ok-read_name.ensures)) in
    rw e (last-no-data _ _ _ _ _ _ m _ _ (sym c.in_err-no_data.ensures), tt)

pub returns : goal.returns
unfolding bytes
returns c =
    let z = c.in_ok-no_data.no_data.value in
    let bits : to_z w64 (of_z w64 z) ≡ z = search rules in
    let m = sym (c.in_ok-side.ensures ∙ field-on side _ _ _ _ (sym c.in_ok-read_name.ensures)) in
    rw bits (last_on _ _ _ _ _ _ m _ _ (sym c.in_ok-no_data.ensures), c.requires)
