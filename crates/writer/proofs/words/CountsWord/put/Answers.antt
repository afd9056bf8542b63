-- `writer::words::Counts::put` meets its contract. Assumes nothing.
use mathlib.Core.Path.{sym, ap, ◌∙◌}
use Rattle.text.specs.Bytes.{bytes}
use Rattle.numerals.specs.Words.{decimal}
use Rattle.numerals.proofs.Writing.{wrote-laid, wrote_as}
use Rattle.writer.specs.Words.{none}
use Rattle.writer.proofs.InnerWords.{count_none, count-some}
use Rattle.writer.proofs.words.CountsWord.put.Goals as goal

pub returns-then-count-eq0 : goal.returns-then-count-eq0
unfolding bytes none
returns-then-count-eq0 c =
    let put = c.put_all.ensures in
    wrote_as (sym (count_none c.args.count c.if-count-eq0.true)) (wrote-laid c.args.at _ put.0 put.1)

pub returns : goal.returns
returns c = wrote_as (ap decimal c.from.ensures ∙ sym (count-some c.args.count c.if-count-eq0.false)) (wrote-laid c.args.at _ c.put_natural.ensures.0.0 c.put_natural.ensures.0.1)
