-- `writer::put_text` meets its contract. Assumes nothing.
use mathlib.Core.Path.{◌≡◌}
use Prim.Native.Nat.{◌+◌}
use native.Mathlib.Omega.{arith}
use lib.ListN.{length}
use mathlib.Core.List.{map}
use Rattle.writer.specs.Text.{header_words, lines}
use Rattle.writer.specs.InnerFrame.{frame_of}
use Rattle.writer.specs.InnerCells.{bytes_of}
use Rattle.writer.proofs.InnerAnswers.{good-few, good-columns, good-corners, good-refused, good-accepted}
use Rattle.writer.proofs.put_text.Given as given
use Rattle.writer.proofs.put_text.Goals.{After-length-2}
use Rattle.writer.proofs.put_text.Goals as goal

-- how long the text is
bytes : (g : given.Over) (c : After-length-2 g) →
    c.length.result + c.length-2.result ≡ length (lines (header_words (frame_of c.args.frame))) + bytes_of (map g.W.Word.word c.args.cells.now)
bytes g c = omega (arith, c.length.ensures.0, c.length-2.ensures.0)

pub length-requires : goal.length-requires
length-requires g c = good-corners g.W.Word.word c.args.cells.now (frame_of c.args.frame) c.requires

pub length-requires-2 : goal.length-requires-2
length-requires-2 g c = good-few g.W.Word.word c.args.cells.now (frame_of c.args.frame) c.requires

pub overflow_add-length : goal.overflow_add-length
overflow_add-length g c =
    omega (arith, c.length.ensures.1, c.length-2.ensures.1, good-few g.W.Word.word c.args.cells.now (frame_of c.args.frame) c.requires)

pub returns-then-room-length : goal.returns-then-room-length
returns-then-room-length g c =
    let n = bytes g (goal.at.returns-then-room-length g c).After-length-2 in
    let p = good-refused g.W.Word.word c.args.cells.now (frame_of c.args.frame) c.requires c.args.room.now n c.if-room-length.true in
    record { answers = p.answers; leaves = p.leaves }

pub put-next-requires : goal.put-next-requires
put-next-requires g c = good-corners g.W.Word.word c.args.cells.now (frame_of c.args.frame) c.requires

pub put-requires : goal.put-requires
put-requires g c =
    let w = c.put-next.ensures in (
      good-columns g.W.Word.word c.args.cells.now (frame_of c.args.frame) c.requires,
      omega (arith, w.ends, c.put-next.auto.out, c.length.ensures.0, c.length-2.ensures.0, c.if-room-length.false),
    )

pub returns : goal.returns
returns g c =
    let n = bytes g (goal.at.returns g c).After-length-2 in
    let p = good-accepted g.W.Word.word c.args.cells.now (frame_of c.args.frame) c.requires c.args.room.now n c.if-room-length.false c.put-next.ensures c.put.ensures in
    record { answers = p.answers; leaves = p.leaves }
