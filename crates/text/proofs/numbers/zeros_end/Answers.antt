-- `text::numbers::zeros_end` meets its contract. Assumes nothing.
use mathlib.Core.Path.{refl}
use native.Mathlib.Omega.{arith}
use borrow.Author.Tests.{eq-eqb, ne_eqb}
use Rattle.text.specs.Numbers.{zero}
use Rattle.text.proofs.InnerRuns.{along-more, along-stop, along-end}
use Rattle.text.proofs.numbers.zeros_end.Goals as goal

pub returns-then-s-i-ne48 : goal.returns-then-s-i-ne48
returns-then-s-i-ne48 c = along-stop zero _ _ _ _ c.loop-i.invariant (ne_eqb _ 48 c.if-s-i-ne48.true)

pub loop-i-preserved : goal.loop-i-preserved
loop-i-preserved c = along-more zero _ _ _ _ c.loop-i.invariant (omega (arith, c.limit-stop.ensures.short)) (omega (arith, c.limit-stop.ensures.within)) (eq-eqb _ 48 c.if-s-i-ne48.false)

pub returns : goal.returns
returns c = along-end zero _ _ _ _ c.loop-i.invariant refl _ c.limit-stop.ensures (omega (arith, c.limit-stop.ensures.from))
