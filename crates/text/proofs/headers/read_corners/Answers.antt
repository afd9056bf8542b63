-- `text::headers::read_corners` meets its contract. Assumes nothing.
use mathlib.Core.Path.{◌≡◌, sym, ◌∙◌}
use borrow.Author.Rules.{rules}
use Rattle.std.proofs.Common.{Err}
use Rattle.text.specs.Bytes.{bytes}
use Rattle.text.specs.Headers.{corner}
use Rattle.text.proofs.InnerFields.{field_off, field-on, corners-no-x, corners-no-y, corners-on}
use Rattle.text.proofs.headers.read_corners.Goals as goal

pub returns-in_err-read_name : goal.returns-in_err-read_name
unfolding bytes
returns-in_err-read_name c =
    let e : c.from_residual.result ≡ Err c.in_err-read_name.field-0.0 = search rules in
    rw e (corners-no-x _ _ _ _ (sym (field_off corner _ _ _ _ _ (sym c.in_err-read_name.ensures))))

pub returns-in_err-x : goal.returns-in_err-x
unfolding bytes
returns-in_err-x c =
    let e : c.from_residual-in_err-x.result ≡ Err c.in_err-x.field-0.0 = search rules in
    rw e (corners-no-x _ _ _ _ (sym (c.in_err-x.ensures ∙ field-on corner _ _ _ _ (sym c.in_ok-read_name.ensures))))

pub returns-in_err-read_name-2 : goal.returns-in_err-read_name-2
unfolding bytes
returns-in_err-read_name-2 c =
    let e : c.from_residual-in_err-read_name-2.result ≡ Err c.in_err-read_name-2.field-0.0 = search rules in
    let x = sym (c.in_ok-x.ensures ∙ field-on corner _ _ _ _ (sym c.in_ok-read_name.ensures)) in
    rw e (corners-no-y _ _ _ _ x _ _ (sym (field_off corner _ _ _ _ _ (sym c.in_err-read_name-2.ensures))))

pub returns-in_err-y : goal.returns-in_err-y
unfolding bytes
returns-in_err-y c =
    let e : c.from_residual-in_err-y.result ≡ Err c.in_err-y.field-0.0 = search rules in
    let x = sym (c.in_ok-x.ensures ∙ field-on corner _ _ _ _ (sym c.in_ok-read_name.ensures)) in
    rw e (corners-no-y _ _ _ _ x _ _ (sym (c.in_err-y.ensures ∙ field-on corner _ _ _ _ (sym c.in_ok-read_name-2.ensures))))

pub returns : goal.returns
unfolding bytes
returns c =
    let x = sym (c.in_ok-x.ensures ∙ field-on corner _ _ _ _ (sym c.in_ok-read_name.ensures)) in
    corners-on _ _ _ _ x _ _ (sym (c.in_ok-y.ensures ∙ field-on corner _ _ _ _ (sym c.in_ok-read_name-2.ensures)))
