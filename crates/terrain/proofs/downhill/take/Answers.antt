-- `terrain::downhill::take` meets its contract. Assumes nothing.
use Rattle.std.proofs.Common.{◌*◌, ◌<◌, ◌≤◌, refl, arith}
use Rattle.laws.proofs.Peel.{hand-room}
use Rattle.terrain.proofs.Receivers.{pointing}
use Rattle.terrain.proofs.InnerDescending.{marked-long, taken-last, taken-waits, taken_next}
use Rattle.terrain.proofs.downhill.take.Goals as goal

pub offset_bounds-order-place : goal.offset_bounds-order-place
offset_bounds-order-place c = omega (arith, hand-room (pointing c.args.drawing.drawn) c.requires.0 c.requires.1, c.args.drawing.drawn.sized.small)

pub bounds-order-place : goal.bounds-order-place
bounds-order-place c = omega (arith, hand-room (pointing c.args.drawing.drawn) c.requires.0 c.requires.1, c.requires.0.long)

pub returns-then-waiting-y : goal.returns-then-waiting-y
returns-then-waiting-y c =
    let a = c.args in
    let past : a.drawing.rows * a.drawing.columns ≤ c.receiver-y.result = omega (arith, c.if-waiting-y.true, marked-long c.args.drawing.drawn 4294967295 (omega arith) c.requires.0 c.requires.1) in
    λ b hand i o. taken-last c.args.drawing.drawn 4294967295 (omega arith) i c.requires.1 c.receiver-y.ensures past o

pub overflow_sub-waiting : goal.overflow_sub-waiting
overflow_sub-waiting c = taken-waits c.args.drawing.drawn 4294967295 (omega arith) c.requires.0 c.requires.1 c.receiver-y.ensures (omega (arith, c.if-waiting-y.false, marked-long c.args.drawing.drawn 4294967295 (omega arith) c.requires.0 c.requires.1))

pub returns : goal.returns
returns c =
    let in-grid : c.receiver-y.result < c.args.drawing.rows * c.args.drawing.columns = omega (arith, c.if-waiting-y.false, marked-long c.args.drawing.drawn 4294967295 (omega arith) c.requires.0 c.requires.1) in
    λ b hand i o. taken_next c.args.drawing.drawn 4294967295 (omega arith) i c.requires.1 c.receiver-y.ensures in-grid refl o
