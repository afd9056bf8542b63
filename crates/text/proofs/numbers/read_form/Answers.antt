-- `text::numbers::read_form` meets its contract. Assumes nothing.
use mathlib.Core.Path.{sym, ◌∙◌}
use Rattle.text.proofs.InnerForms.{form-none, form-point, form-on, form-off}
use Rattle.text.proofs.numbers.read_form.Goals as goal

pub returns-then-d-b : goal.returns-then-d-b
returns-then-d-b c = form-none _ _ _ c.requires.0 c.requires.1 c.after_sign-b.ensures _ _ c.read_digits-w.ensures c.if-d-b.true

pub returns-then-byte_at-eq46 : goal.returns-then-byte_at-eq46
returns-then-byte_at-eq46 c =
    form-point _ _ _ c.requires.0 c.requires.1 c.after_sign-b.ensures _ _ c.read_digits-w.ensures c.if-d-b.false
    (sym c.byte_at.ensures ∙ c.if-byte_at-eq46.true) _ c.read_decimals.ensures

pub returns-then-ends : goal.returns-then-ends
returns-then-ends c =
    form-on _ _ _ c.requires.0 c.requires.1 c.after_sign-b.ensures _ _ c.read_digits-w.ensures c.if-d-b.false
    (λ q. c.if-byte_at-eq46.false (c.byte_at.ensures ∙ q)) (sym c.ends.ensures ∙ c.if-ends.true)

pub returns : goal.returns
returns c =
    form-off _ _ _ c.requires.0 c.requires.1 c.after_sign-b.ensures _ _ c.read_digits-w.ensures c.if-d-b.false
    (λ q. c.if-byte_at-eq46.false (c.byte_at.ensures ∙ q)) (sym c.ends.ensures ∙ c.if-ends.false)
