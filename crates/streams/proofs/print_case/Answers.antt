-- `streams::print_case` is safe: the sheet is a part of its room. Assumes nothing.
use Rattle.sheet.proofs.Rooms.{part-of-room}
use Rattle.streams.proofs.print_case.Goals as goal

pub slice_bounds-write_all-end : goal.slice_bounds-write_all-end
slice_bounds-write_all-end g c = part-of-room _ _ c.room-lines.ensures c.print-end.auto.sheet c.print-end.ensures.fits
