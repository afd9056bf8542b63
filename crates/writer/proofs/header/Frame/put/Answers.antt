-- `writer::header::Frame::put` meets its contract. Assumes nothing.
use Rattle.text.specs.Bytes.{bytes}
use Rattle.writer.specs.Words.{none}
use Rattle.writer.specs.InnerFrame.{frame_of}
use Rattle.writer.proofs.InnerHeader.{wrote-header}
use Rattle.writer.proofs.header.Frame.put.Goals as goal

pub returns : goal.returns
unfolding bytes none
returns c =
    wrote-header (frame_of c.args.self.now) c.put_count_field-a.ensures.0 c.put_count_field-b.ensures.0
    c.put_field-c.ensures.0 c.put_field-d.ensures.0 c.put_side_field-e.ensures.0 c.put_field.ensures.0
