-- `writer::words::Heights::put` meets its contract. Assumes nothing.
use mathlib.Core.Path.{sym}
use mathlib.Core.List.{[], ◌∷◌}
use Rattle.text.specs.Bytes.{bytes}
use Rattle.numerals.proofs.Writing.{wrote-laid, wrote_as, wrote-byte, wrote_then}
use Rattle.writer.specs.Words.{none}
use Rattle.writer.proofs.InnerWords.{height-none, height-below, height-above}
use Rattle.writer.proofs.words.HeightsWord.put.Goals as goal

pub returns-then-height-eq-NO_DATA : goal.returns-then-height-eq-NO_DATA
unfolding bytes none
returns-then-height-eq-NO_DATA c =
    let put = c.put_all.ensures in
    wrote_as (sym (height-none c.args.height c.ranges.height c.if-height-eq-NO_DATA.true)) (wrote-laid c.args.at _ put.0 put.1)

pub returns-then-height-lt0 : goal.returns-then-height-lt0
returns-then-height-lt0 c =
    let w = height-below c.args.height c.ranges.height c.if-height-eq-NO_DATA.false c.size.ensures.0 c.if-height-lt0.true in
    wrote_as (sym w) (wrote_then {a = 45 ∷ []} (wrote-byte c.args.at 45 c.put.ensures) c.put_fixed.ensures)

pub returns : goal.returns
returns c =
    wrote_as (sym (height-above c.args.height c.ranges.height c.if-height-eq-NO_DATA.false c.size-2.ensures.0 c.if-height-lt0.false))
    c.put_fixed-2.ensures
