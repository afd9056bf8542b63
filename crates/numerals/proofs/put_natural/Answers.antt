-- `numerals::put_natural` meets its contract. Assumes nothing.
use native.Mathlib.Omega.{arith}
use Rattle.numerals.proofs.InnerBack.{back_none, natural-tens, natural-more, natural-last, natural-all}
use Rattle.numerals.proofs.put_natural.Goals as goal

pub loop-i-init : goal.loop-i-init
loop-i-init c = back_none _ _ _ _ c.digit_count-count.ensures.0

pub loop-i-preserved : goal.loop-i-preserved
loop-i-preserved c =
    let tens = natural-tens _ _ _ c.loop-i.i c.loop-i.left c.loop-i.invariant (omega arith) in
    natural-more _ _ _ c.loop-i.i c.loop-i.left c.loop-i.invariant tens c.put_past.ensures

pub overflow_cast-left-2 : goal.overflow_cast-left-2
overflow_cast-left-2 c = omega (arith, natural-last _ _ _ c.loop-i.i c.loop-i.left c.loop-i.invariant (omega arith))

pub overflow_add-left-2 : goal.overflow_add-left-2
overflow_add-left-2 c = omega (arith, natural-last _ _ _ c.loop-i.i c.loop-i.left c.loop-i.invariant (omega arith))

pub returns : goal.returns
returns c =
    let last = natural-last _ _ _ c.loop-i.i c.loop-i.left c.loop-i.invariant (omega arith) in
    let all = natural-all _ _ _ c.loop-i.i c.loop-i.left c.loop-i.invariant last c.put.ensures in
    ((all, c.digit_count-count.ensures.0), c.digit_count-count.ensures.1)
