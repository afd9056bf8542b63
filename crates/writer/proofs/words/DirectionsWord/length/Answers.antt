-- `writer::words::Directions::length` meets its contract. Assumes nothing.
use mathlib.Core.Path.{sym, ap, ◌∙◌}
use native.Mathlib.Omega.{arith}
use lib.ListN.{length}
use Rattle.numerals.specs.Words.{decimal}
use Rattle.writer.proofs.InnerWords.{none-length, direction-none, direction-some}
use Rattle.writer.proofs.words.DirectionsWord.length.Goals as goal

pub returns-then-code-eq-NO_CODE : goal.returns-then-code-eq-NO_CODE
returns-then-code-eq-NO_CODE c = (sym (ap length (direction-none c.args.code (omega (arith, c.if-code-eq-NO_CODE.true))) ∙ none-length), omega arith)

pub returns : goal.returns
returns c = (c.digit_count.ensures.0 ∙ ap length (ap decimal c.from.ensures ∙ sym (direction-some c.args.code (λ e. c.if-code-eq-NO_CODE.false (omega arith)))), omega (arith, c.digit_count.ensures.1))
