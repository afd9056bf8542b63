-- `factor::sine::sine_by_halves` meets its contract. Assumes nothing.
use mathlib.Core.Path.{sym, ap, ◌∙◌}
use mathlib.Core.Bool.{Bool, cond}
use Prim.Native.Nat.{◌+◌, ◌/◌}
use native.Mathlib.Omega.{arith}
use Rattle.laws.proofs.Greatest.{among-half, among_one}
use Rattle.factor.proofs.Sines.{sine-falling, sine-wide}
use Rattle.factor.proofs.sine.sine_by_halves.Goals as goal

pub loop-left-preserved : goal.loop-left-preserved
loop-left-preserved c =
    let a = c.args in
    among-half c.moved_if-u.result (sine-falling a.side a.q 1023) c.loop-left.invariant c.loop-left-test.true
    (c.moved_if-u.ensures ∙ ap (λ (b : Bool). cond b (c.loop-left.u + c.loop-left.left / 2) c.loop-left.u) c.sine_reaches.ensures)

pub returns : goal.returns
returns c = sym (among_one c.loop-left.invariant c.loop-left-test.false) ∙ sine-wide c.args.side c.args.q 1023 c.requires.side-some (omega arith)
