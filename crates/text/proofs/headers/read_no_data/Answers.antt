-- `text::headers::read_no_data` meets its contract. Assumes nothing.
use mathlib.Core.Path.{◌≡◌, sym, ◌∙◌}
use borrow.Author.Rules.{rules}
use Rattle.std.proofs.Common.{Err}
use Rattle.text.specs.Bytes.{bytes}
use Rattle.text.specs.Headers.{any_measure}
use Rattle.text.proofs.InnerFields.{field_off, field-on, no-data-given}
use Rattle.text.proofs.headers.read_no_data.Goals as goal

pub returns-in_err-read_name : goal.returns-in_err-read_name
unfolding bytes
returns-in_err-read_name c =
    let e : c.from_residual.result ≡ Err c.in_err-read_name.field-0.0 = search rules in
    rw e
    (field_off any_measure _ _ _ _ _ (sym c.in_err-read_name.ensures) ∙ no-data-given _ _ (sym c.letter_next.ensures ∙ c.if-letter_next.true))

pub returns-then-letter_next : goal.returns-then-letter_next
unfolding bytes
returns-then-letter_next c =
    c.read_length.ensures ∙ field-on any_measure _ _ _ _ (sym c.in_ok-read_name.ensures)
    ∙ no-data-given _ _ (sym c.letter_next.ensures ∙ c.if-letter_next.true)
