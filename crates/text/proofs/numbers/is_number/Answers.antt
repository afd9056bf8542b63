-- `text::numbers::is_number` meets its contract. Assumes nothing.
use mathlib.Core.Path.{sym, ◌∙◌}
use Rattle.text.proofs.InnerAlone.{alone-empty, alone-none, alone-whole, alone-short, alone-point}
use borrow.Author.Rules.{rules}
use Rattle.text.proofs.numbers.is_number.Goals as goal

pub returns-then-is_empty : goal.returns-then-is_empty
returns-then-is_empty c = alone-empty _ (search rules)

pub returns-then-d-b : goal.returns-then-d-b
returns-then-d-b c = alone-none _ _ _ c.after_sign-b.ensures c.read_digits-w.ensures.ends c.if-d-b.true

pub returns-then-byte_at-ne46 : goal.returns-then-byte_at-ne46
returns-then-byte_at-ne46 c = alone-whole _ _ _ c.after_sign-b.ensures c.read_digits-w.ensures.ends c.if-d-b.false (λ z. c.if-byte_at-ne46.true (c.byte_at.ensures ∙ z))

pub returns-then-f-d : goal.returns-then-f-d
returns-then-f-d c =
    alone-short _ _ _ c.after_sign-b.ensures c.read_digits-w.ensures.ends c.if-d-b.false (sym c.byte_at.ensures ∙ c.if-byte_at-ne46.false)
    _ c.read_digits-t.ensures.ends c.if-f-d.true

pub returns : goal.returns
returns c =
    alone-point _ _ _ c.after_sign-b.ensures c.read_digits-w.ensures.ends c.if-d-b.false (sym c.byte_at.ensures ∙ c.if-byte_at-ne46.false)
    _ c.read_digits-t.ensures.ends c.if-f-d.false
