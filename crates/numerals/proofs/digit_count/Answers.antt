-- `numerals::digit_count` meets its contract. Assumes nothing.
use native.Mathlib.Omega.{arith}
use Rattle.numerals.proofs.InnerBack.{counting-none, counting_more, counting-all}
use Rattle.numerals.proofs.digit_count.Goals as goal

pub loop-left-init : goal.loop-left-init
loop-left-init c = counting-none _ (omega (arith, c.ranges.n))

pub loop-left-preserved : goal.loop-left-preserved
loop-left-preserved c = counting_more _ _ _ c.loop-left.invariant c.loop-left-test.true

pub returns : goal.returns
returns c =
    let e = counting-all _ c.loop-left.count c.loop-left.left c.loop-left.invariant (omega arith) in
    (e, omega (arith, e, c.loop-left.invariant.most))
