-- `text::numbers::read_decimals` meets its contract. Assumes nothing.
use mathlib.Core.Path.{sym, ◌∙◌}
use Rattle.text.proofs.Ends.{end-no-digit}
use Rattle.text.proofs.InnerForms.{tail_none, decimals-none, decimals-on, decimals-off}
use Rattle.text.proofs.numbers.read_decimals.Goals as goal

pub returns-then-q-p : goal.returns-then-q-p
returns-then-q-p c = decimals-none _ _ _ _ c.read_hundredths-h.ensures _ _ c.requires.0 c.if-q-p.true

pub returns-then-ends : goal.returns-then-ends
returns-then-ends c =
    let e = sym c.ends.ensures ∙ c.if-ends.true in
    decimals-on _ _ _ _ c.read_hundredths-h.ensures _ _ c.requires.0 c.if-q-p.false _ _ (tail_none _ _ _ c.requires.0 c.read_hundredths-h.ensures.ends (end-no-digit _ _ e)) c.requires.1 e

pub returns-then-ends-2 : goal.returns-then-ends-2
returns-then-ends-2 c =
    decimals-on _ _ _ _ c.read_hundredths-h.ensures _ _ c.requires.0 c.if-q-p.false _ _ c.read_tail-t.ensures c.requires.1
    (sym c.ends-2.ensures ∙ c.if-ends-2.true)

pub returns : goal.returns
returns c =
    decimals-off _ _ _ _ c.read_hundredths-h.ensures _ _ c.requires.0 c.if-q-p.false _ _ c.read_tail-t.ensures
    (sym c.ends-2.ensures ∙ c.if-ends-2.false)
