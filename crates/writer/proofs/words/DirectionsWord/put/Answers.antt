-- `writer::words::Directions::put` meets its contract. Assumes nothing.
use mathlib.Core.Path.{sym, ap, ◌∙◌}
use native.Mathlib.Omega.{arith}
use Rattle.text.specs.Bytes.{bytes}
use Rattle.numerals.specs.Words.{decimal}
use Rattle.numerals.proofs.Writing.{wrote-laid, wrote_as}
use Rattle.writer.specs.Words.{none}
use Rattle.writer.proofs.InnerWords.{direction-none, direction-some}
use Rattle.writer.proofs.words.DirectionsWord.put.Goals as goal

pub returns-then-code-eq-NO_CODE : goal.returns-then-code-eq-NO_CODE
unfolding bytes none
returns-then-code-eq-NO_CODE c =
    let put = c.put_all.ensures in
    wrote_as (sym (direction-none c.args.code (omega (arith, c.if-code-eq-NO_CODE.true)))) (wrote-laid c.args.at _ put.0 put.1)

pub returns : goal.returns
returns c = wrote_as (ap decimal c.from.ensures ∙ sym (direction-some c.args.code (λ e. c.if-code-eq-NO_CODE.false (omega arith)))) (wrote-laid c.args.at _ c.put_natural.ensures.0.0 c.put_natural.ensures.0.1)
