-- `terrain::downhill::follow` meets its contract. Assumes nothing.
use Rattle.std.proofs.Common.{◌+◌, ◌*◌, refl, arith}
use Rattle.laws.proofs.Peel.{hand-room}
use Rattle.terrain.proofs.Receivers.{pointing}
use Rattle.terrain.proofs.downhill.follow.Goals as goal

pub overflow_add-at : goal.overflow_add-at
overflow_add-at c =
    let d = c.args.drawing.drawn in
    omega (arith, hand-room (pointing d) c.loop-place.invariant.0 c.loop-place.invariant.1, d.sized.small)

pub returns-then-start-y : goal.returns-then-start-y
returns-then-start-y c = c.take-y.ensures (c.args.start + 1) (c.args.drawing.rows * c.args.drawing.columns) c.loop-place.invariant.0 (record { some = (λ h. absurd (omega arith)); none = (λ l z. absurd (omega (arith, c.if-start-y.true))) })

pub returns-then-waiting-y-gt0 : goal.returns-then-waiting-y-gt0
returns-then-waiting-y-gt0 c = c.take-y.ensures (c.args.start + 1) (c.args.drawing.rows * c.args.drawing.columns) c.loop-place.invariant.0 (record { some = (λ h. absurd (omega arith)); none = (λ l z. absurd (omega (arith, c.if-waiting-y-gt0.true))) })

pub loop-place-smaller : goal.loop-place-smaller
loop-place-smaller c = omega (arith, hand-room (pointing c.args.drawing.drawn) c.loop-place.invariant.0 c.loop-place.invariant.1)

pub loop-place-preserved : goal.loop-place-preserved
loop-place-preserved c = (
  c.take-y.ensures (c.args.start + 1) c.take-y.result c.loop-place.invariant.0 (record { some = (λ h. (refl, omega (arith, c.if-waiting-y-gt0.false))); none = (λ l z. refl) }),
  omega (arith, c.if-start-y.false, c.requires.1),
)
