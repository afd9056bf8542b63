-- `terrain::drawing::Drawing::await_one` meets its contract. Assumes nothing.
use Rattle.terrain.proofs.Receivers.{code-mapped, receiver-none}
use Rattle.std.proofs.Common.{◌+◌, get_or, sym, arith}
use Rattle.std.proofs.lemmas.List.{set_past}
use Rattle.terrain.specs.Trail.{receiver_of}
use Rattle.terrain.proofs.drawing.Drawing.await_one.Goals as goal

pub returns-then-self-x : goal.returns-then-self-x
returns-then-self-x c =
    let d = c.args.self in
    let s = c.args.numbers.now in
    let y = receiver_of d.rows d.columns d.direction.now c.args.x in
    sym (set_past s y (get_or s y 0 + c.args.one) (omega (arith, receiver-none d.drawn c.args.x c.requires.0 c.if-self-x.true, c.requires.1)))

pub receiver-requires : goal.receiver-requires
receiver-requires c = code-mapped c.args.self.drawn c.args.x c.requires.0 c.if-self-x.false

pub hand_on-requires : goal.hand_on-requires
hand_on-requires c = rw c.receiver.ensures (λ h. c.requires.2 (omega (arith, h, c.requires.1)))
