-- `text::numbers::read_digits` meets its contract. Assumes nothing.
use mathlib.Core.Path.{sym, ◌∙◌}
use native.Mathlib.Omega.{arith}
use Rattle.text.proofs.InnerValues.{scan-none, scan-more, scan-small, scan-stop, scan-end}
use Rattle.text.proofs.numbers.read_digits.Goals as goal

pub loop-i-init : goal.loop-i-init
loop-i-init c = scan-none _ _ _ (omega arith)

pub returns-then-not-is_digit : goal.returns-then-not-is_digit
returns-then-not-is_digit c = scan-stop _ _ _ _ _ c.loop-i.invariant c.requires.1 (sym c.is_digit.ensures ∙ c.if-not-is_digit.true)

pub overflow_mul-value : goal.overflow_mul-value
overflow_mul-value c = omega (arith, scan-small _ _ _ _ _ c.loop-i.invariant 8 (omega (arith, c.limit-stop.ensures.short)))

pub overflow_add-value : goal.overflow_add-value
overflow_add-value c = omega (arith, scan-small _ _ _ _ _ c.loop-i.invariant 8 (omega (arith, c.limit-stop.ensures.short)))

pub loop-i-preserved : goal.loop-i-preserved
loop-i-preserved c = scan-more _ _ _ _ _ c.loop-i.invariant (omega (arith, c.limit-stop.ensures.short)) (omega (arith, c.limit-stop.ensures.within)) _ (sym c.is_digit.ensures ∙ c.if-not-is_digit.false) c.digit_of.ensures.0

pub returns : goal.returns
returns c = scan-end _ _ _ _ _ c.loop-i.invariant c.requires.1 _ c.limit-stop.ensures (omega (arith, c.limit-stop.ensures.from))
