-- `text::numbers::is_comma_decimal` meets its contract. Assumes nothing.
use mathlib.Core.Path.{sym, ◌∙◌}
use Rattle.text.proofs.InnerCommas.{comma-none, comma-off, comma-short, comma-on}
use Rattle.text.proofs.numbers.is_comma_decimal.Goals as goal

pub returns-then-d-b : goal.returns-then-d-b
returns-then-d-b c = comma-none _ _ _ c.requires.0 c.requires.1 c.after_sign-b.ensures _ c.read_digits-w.ensures.ends c.if-d-b.true

pub returns-then-byte_at-ne44 : goal.returns-then-byte_at-ne44
returns-then-byte_at-ne44 c =
    let p = c.requires in
    comma-off _ _ _ p.0 p.1 c.after_sign-b.ensures _ c.read_digits-w.ensures.ends (λ z. c.if-byte_at-ne44.true (c.byte_at.ensures ∙ z)) p.2

pub returns-then-f-d : goal.returns-then-f-d
returns-then-f-d c =
    let p = c.requires in
    comma-short _ _ _ p.0 p.1 c.after_sign-b.ensures _ c.read_digits-w.ensures.ends c.if-d-b.false
    (sym c.byte_at.ensures ∙ c.if-byte_at-ne44.false) _ c.read_digits-t.ensures.ends c.if-f-d.true

pub returns : goal.returns
returns c =
    let p = c.requires in
    comma-on _ _ _ p.0 p.1 c.after_sign-b.ensures _ c.read_digits-w.ensures.ends c.if-d-b.false
    (sym c.byte_at.ensures ∙ c.if-byte_at-ne44.false) _ c.read_digits-t.ensures.ends c.if-f-d.false _ c.ends.ensures
