-- `writer::words::Heights::length` meets its contract. Assumes nothing.
use mathlib.Core.Path.{◌≡◌, sym, ap, ◌∙◌}
use native.Mathlib.Omega.{arith}
use lib.ListN.{length}
use Rattle.numerals.specs.Words.{fixed}
use Rattle.writer.proofs.InnerWords.{none-length, height-none, height-below, height-above}
use Rattle.writer.proofs.words.HeightsWord.length.Goals as goal

pub returns-then-height-eq-NO_DATA : goal.returns-then-height-eq-NO_DATA
returns-then-height-eq-NO_DATA c = (sym (ap length (height-none c.args.height c.ranges.height c.if-height-eq-NO_DATA.true) ∙ none-length), omega arith)

pub returns-then-height-lt0 : goal.returns-then-height-lt0
returns-then-height-lt0 c =
    let w = height-below c.args.height c.ranges.height c.if-height-eq-NO_DATA.false c.size.ensures.0 c.if-height-lt0.true in
    let e : c.fixed_length-length.result ≡ length (fixed 2 c.size.result) = c.fixed_length-length.ensures.0 in
    (omega (arith, e, ap length w), omega (arith, c.fixed_length-length.ensures.1))

pub returns : goal.returns
returns c =
    let w = height-above c.args.height c.ranges.height c.if-height-eq-NO_DATA.false c.size.ensures.0 c.if-height-lt0.false in
    (c.fixed_length-length.ensures.0 ∙ sym (ap length w), omega (arith, c.fixed_length-length.ensures.1))
