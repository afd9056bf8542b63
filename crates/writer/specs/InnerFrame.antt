-- What a frame of the code says: only inner functions cite this file. Assumes nothing.
use Rattle.std.specs.Prelude.{◌≤◌, length}
use Rattle.writer.specs.Text as T
use Rattle.writer.specs.declared.header.Frame.{Frame}

-- in terms of the definitions
abbrev pub frame_of : Frame → T.Frame
frame_of f = T.frame f.rows f.columns f.side f.x.now f.y.now

-- its corner words are short
abbrev pub CornersShort : Frame → Type 0
CornersShort f = (length f.x.now ≤ 17) × (length f.y.now ≤ 17)
