-- `terrain::given::fall_along` meets its contract. Assumes nothing.
use Rattle.std.proofs.Common.{◌≡◌, ◌*◌, ◌<◌, true, arith}
use Rattle.terrain.specs.Trail.{mapped_at}
use Rattle.terrain.proofs.Receivers.{code-mapped, bit-of}
use Rattle.terrain.proofs.Trails.{receiver-points}
use Rattle.terrain.proofs.Keeping.{along-none, along-off, along-lower, along-flat, along-down}
use Rattle.terrain.proofs.given.fall_along.Goals as goal

pub returns-then-code : goal.returns-then-code
returns-then-code c = along-none c.requires.0 c.args.x c.requires.1 c.if-code.true

pub receiver-y-requires : goal.receiver-y-requires
receiver-y-requires c = code-mapped c.requires.0.drawn c.args.x c.requires.1 c.if-code.false

pub returns-then-level-y : goal.returns-then-level-y
returns-then-level-y c =
    let mapped : mapped_at c.args.drawing.rows c.args.drawing.columns c.args.drawing.direction.now c.args.x ≡ true = code-mapped c.requires.0.drawn c.args.x c.requires.1 c.if-code.false in
    along-off c.requires.0 c.args.x c.requires.1 mapped c.receiver-y.ensures (omega (arith, c.if-level-y.true, c.requires.0.levels.long))

pub overflow_sub-drop : goal.overflow_sub-drop
overflow_sub-drop c =
    let mapped : mapped_at c.args.drawing.rows c.args.drawing.columns c.args.drawing.direction.now c.args.x ≡ true = code-mapped c.requires.0.drawn c.args.x c.requires.1 c.if-code.false in
    let on : c.receiver-y.result < c.args.drawing.rows * c.args.drawing.columns = omega (arith, c.if-level-y.false, c.requires.0.levels.long) in
    along-lower c.requires.0 c.args.x c.requires.1 mapped c.receiver-y.ensures on

pub returns-then-drop-lt1 : goal.returns-then-drop-lt1
returns-then-drop-lt1 c =
    let mapped : mapped_at c.args.drawing.rows c.args.drawing.columns c.args.drawing.direction.now c.args.x ≡ true = code-mapped c.requires.0.drawn c.args.x c.requires.1 c.if-code.false in
    let on : c.receiver-y.result < c.args.drawing.rows * c.args.drawing.columns = omega (arith, c.if-level-y.false, c.requires.0.levels.long) in
    along-flat c.requires.0 c.args.x c.requires.1 mapped c.receiver-y.ensures on c.if-drop-lt1.true

pub returns : goal.returns
returns c =
    let mapped : mapped_at c.args.drawing.rows c.args.drawing.columns c.args.drawing.direction.now c.args.x ≡ true = code-mapped c.requires.0.drawn c.args.x c.requires.1 c.if-code.false in
    let on : c.receiver-y.result < c.args.drawing.rows * c.args.drawing.columns = omega (arith, c.if-level-y.false, c.requires.0.levels.long) in
    along-down c.requires.0 c.args.x c.requires.1 mapped c.receiver-y.ensures on
    (bit-of c.requires.0.drawn c.args.x c.requires.1 (receiver-points c.args.drawing.rows c.args.drawing.columns c.args.drawing.direction.now c.args.x (omega (arith, on, c.receiver-y.ensures))))
    c.if-drop-lt1.false
