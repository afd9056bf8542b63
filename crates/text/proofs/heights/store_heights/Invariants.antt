-- What the loop of `text::heights::store_heights` keeps. Assumes nothing.
use lib.ListN.{length}
use Rattle.text.specs.Heights.{heights}
use Rattle.text.specs.InnerHeights.{values_of}
use Rattle.text.proofs.InnerGrids.{Storing}
use Rattle.text.proofs.heights.store_heights.Given as goal

abbrev pub invariant-loop-h : goal.invariant-loop-h
invariant-loop-h l = Storing l.n l.s (values_of (heights l.n (length l.initial.h-items) l.s l.initial.rest.at)) l.rest.at l.h-index l.h-items
