-- `writer::words::Factors::put` meets its contract. Assumes nothing.
use mathlib.Core.Path.{sym, ap, ◌∙◌}
use native.Mathlib.Omega.{arith}
use Rattle.text.specs.Bytes.{bytes}
use Rattle.numerals.specs.Words.{fixed}
use Rattle.numerals.proofs.Writing.{wrote-laid, wrote_as}
use Rattle.writer.specs.Words.{none}
use Rattle.writer.proofs.InnerWords.{factor-none, factor-some}
use Rattle.writer.proofs.words.FactorsWord.put.Goals as goal

pub returns-then-factor-ge-TOO_LONG : goal.returns-then-factor-ge-TOO_LONG
unfolding bytes none
returns-then-factor-ge-TOO_LONG c =
    let put = c.put_all.ensures in
    wrote_as (sym (factor-none c.args.factor c.if-factor-ge-TOO_LONG.true (omega (arith, c.ranges.factor)))) (wrote-laid c.args.at _ put.0 put.1)

pub returns : goal.returns
returns c = wrote_as (ap (fixed 5) c.from.ensures ∙ sym (factor-some c.args.factor (omega (arith, c.if-factor-ge-TOO_LONG.false)))) c.put_fixed.ensures
