-- `writer::words::Counts::length` meets its contract. Assumes nothing.
use mathlib.Core.Path.{sym, ap, ◌∙◌}
use native.Mathlib.Omega.{arith}
use lib.ListN.{length}
use Rattle.numerals.specs.Words.{decimal}
use Rattle.writer.proofs.InnerWords.{none-length, count_none, count-some}
use Rattle.writer.proofs.words.CountsWord.length.Goals as goal

pub returns-then-count-eq0 : goal.returns-then-count-eq0
returns-then-count-eq0 c = (sym (ap length (count_none c.args.count c.if-count-eq0.true) ∙ none-length), omega arith)

pub returns : goal.returns
returns c = (c.digit_count.ensures.0 ∙ ap length (ap decimal c.from.ensures ∙ sym (count-some c.args.count c.if-count-eq0.false)), omega (arith, c.digit_count.ensures.1))
