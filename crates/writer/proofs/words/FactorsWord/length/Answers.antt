-- `writer::words::Factors::length` meets its contract. Assumes nothing.
use mathlib.Core.Path.{sym, ap, ◌∙◌}
use native.Mathlib.Omega.{arith}
use lib.ListN.{length}
use Rattle.numerals.specs.Words.{fixed}
use Rattle.writer.proofs.InnerWords.{none-length, factor-none, factor-some}
use Rattle.writer.proofs.words.FactorsWord.length.Goals as goal

pub returns-then-factor-ge-TOO_LONG : goal.returns-then-factor-ge-TOO_LONG
returns-then-factor-ge-TOO_LONG c = (sym (ap length (factor-none c.args.factor c.if-factor-ge-TOO_LONG.true (omega (arith, c.ranges.factor))) ∙ none-length), omega arith)

pub returns : goal.returns
returns c = (c.fixed_length.ensures.0 ∙ ap length (ap (fixed 5) c.from.ensures ∙ sym (factor-some c.args.factor (omega (arith, c.if-factor-ge-TOO_LONG.false)))), omega (arith, c.fixed_length.ensures.1))
