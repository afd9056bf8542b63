-- `factor::length_factor::length_factor_by_halves` meets its contract. Assumes nothing.
use mathlib.Core.Path.{sym, ap, ◌∙◌}
use mathlib.Core.Bool.{Bool, cond}
use Prim.Native.Nat.{◌+◌, ◌/◌}
use Rattle.laws.proofs.Greatest.{among-half, among_one}
use Rattle.factor.proofs.Power.{reached-falling, factor-in-row}
use Rattle.factor.proofs.length_factor.length_factor_by_halves.Goals as goal

pub loop-left-preserved : goal.loop-left-preserved
loop-left-preserved c =
    let a = c.args in
    among-half c.moved_if-t.result (reached-falling (a.class + 2) a.mm 371) c.loop-left.invariant c.loop-left-test.true
    (c.moved_if-t.ensures ∙ ap (λ (b : Bool). cond b (c.loop-left.t + c.loop-left.left / 2) c.loop-left.t) c.length_reaches.ensures)

pub returns : goal.returns
returns c = sym (among_one c.loop-left.invariant c.loop-left-test.false) ∙ factor-in-row c.args.class c.args.mm c.requires.class-in c.requires.length-in
