-- `text::headers::read_extent` meets its contract. Assumes nothing.
use mathlib.Core.Path.{◌≡◌, sym, ◌∙◌}
use borrow.Author.Rules.{rules}
use Rattle.std.proofs.Common.{Err}
use Rattle.text.specs.Bytes.{bytes}
use Rattle.text.specs.Numbers.{count}
use Rattle.text.proofs.InnerFields.{field_off, field-on, extent-no-columns, extent-no-rows, extent-on}
use Rattle.text.proofs.headers.read_extent.Goals as goal

pub returns-in_err-read_name : goal.returns-in_err-read_name
unfolding bytes
returns-in_err-read_name c =
    let e : c.from_residual.result ≡ Err c.in_err-read_name.field-0.0 = search rules in
    rw e (extent-no-columns _ _ _ _ (sym (field_off count _ _ _ _ _ (sym c.in_err-read_name.ensures))), tt)

pub returns-in_err-columns : goal.returns-in_err-columns
unfolding bytes
returns-in_err-columns c =
    let e : c.from_residual-in_err-columns.result ≡ Err c.in_err-columns.field-0.0 = search rules in
    rw e (extent-no-columns _ _ _ _ (sym (c.in_err-columns.ensures.0 ∙ field-on count _ _ _ _ (sym c.in_ok-read_name.ensures))), tt)

pub returns-in_err-read_name-2 : goal.returns-in_err-read_name-2
unfolding bytes
returns-in_err-read_name-2 c =
    let e : c.from_residual-in_err-read_name-2.result ≡ Err c.in_err-read_name-2.field-0.0 = search rules in
    let n = sym (c.in_ok-columns.ensures.0 ∙ field-on count _ _ _ _ (sym c.in_ok-read_name.ensures)) in
    rw e (extent-no-rows _ _ _ _ n _ _ (sym (field_off count _ _ _ _ _ (sym c.in_err-read_name-2.ensures))), tt)

pub returns-in_err-rows : goal.returns-in_err-rows
unfolding bytes
returns-in_err-rows c =
    let e : c.from_residual-in_err-rows.result ≡ Err c.in_err-rows.field-0.0 = search rules in
    let n = sym (c.in_ok-columns.ensures.0 ∙ field-on count _ _ _ _ (sym c.in_ok-read_name.ensures)) in
    rw e (extent-no-rows _ _ _ _ n _ _ (sym (c.in_err-rows.ensures.0 ∙ field-on count _ _ _ _ (sym c.in_ok-read_name-2.ensures))), tt)

pub returns : goal.returns
unfolding bytes
returns c =
    let n = sym (c.in_ok-columns.ensures.0 ∙ field-on count _ _ _ _ (sym c.in_ok-read_name.ensures)) in
    let m = sym (c.in_ok-rows.ensures.0 ∙ field-on count _ _ _ _ (sym c.in_ok-read_name-2.ensures)) in
    (extent-on _ _ _ _ n _ _ m, record { rows_few = c.in_ok-rows.ensures.1; columns-few = c.in_ok-columns.ensures.1 })
