-- `terrain::drawing::Drawing::receiver` meets its contract. Assumes nothing.
use Rattle.std.proofs.Common.{get_or, ◌∙◌, arith}
use lib.Count.{count_trailing_zeros}
use Rattle.terrain.proofs.InnerInterior.{beside-room, beside-is}
use Rattle.terrain.proofs.Receivers.{pointing, mapped-code, receiver-leaves, receiver-near, receiver-beside}
use Rattle.terrain.proofs.drawing.Drawing.receiver.Goals as goal

pub bounds-self-x : goal.bounds-self-x
bounds-self-x c = let d = c.args.self.drawn in omega (arith, (pointing d).within c.args.x c.requires, d.long)

pub returns-then-k-ge8 : goal.returns-then-k-ge8
returns-then-k-ge8 c = let d = c.args.self.drawn in receiver-leaves d c.args.x ((pointing d).within c.args.x c.requires) c.if-k-ge8.true

pub shifted-requires : goal.shifted-requires
shifted-requires c =
    let a = c.args.self in
    let d = a.drawn in
    let here = (pointing d).within c.args.x c.requires in
    let k = count_trailing_zeros 8 (get_or a.direction.now c.args.x 0) in
    let near = receiver-near d c.args.x here (mapped-code d c.args.x c.requires) c.if-k-ge8.false in
    (beside-room a.rows a.columns c.args.x k d.sized (omega (arith, here, d.sized.small)) c.if-k-ge8.false near, a.placed)

pub returns : goal.returns
returns c =
    let a = c.args.self in
    let d = a.drawn in
    let here = (pointing d).within c.args.x c.requires in
    let k = count_trailing_zeros 8 (get_or a.direction.now c.args.x 0) in
    let v = mapped-code d c.args.x c.requires in
    c.shifted.ensures ∙ beside-is a.rows a.columns c.args.x k (receiver-near d c.args.x here v c.if-k-ge8.false) ∙ receiver-beside d c.args.x here v c.if-k-ge8.false
