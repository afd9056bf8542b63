-- `writer::header::Frame::length` meets its contract. Assumes nothing.
use mathlib.Core.Path.{ap, ◌∙◌}
use Prim.Native.Nat.{ℕ}
use native.Mathlib.Omega.{arith}
use lib.ListN.{length}
use Rattle.numerals.specs.Words.{fixed}
use Rattle.writer.specs.InnerFrame.{frame_of}
use Rattle.writer.proofs.InnerHeader.{header-length}
use Rattle.writer.proofs.header.Frame.length.Goals as goal

pub returns : goal.returns
returns c =
    let e = header-length (frame_of c.args.self.now) in
    let short = c.requires in
    let side = c.fixed_length.ensures.0 ∙ ap (λ (k : ℕ). length (fixed 2 k)) c.from.ensures in (
      omega (arith, e, side, c.digit_count-columns.ensures.0, c.digit_count-rows.ensures.0),
      omega (arith, short.0, short.1, c.digit_count-columns.ensures.1, c.digit_count-rows.ensures.1, c.fixed_length.ensures.1),
    )
