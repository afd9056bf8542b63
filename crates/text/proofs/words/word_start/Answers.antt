-- `text::words::word_start` meets its contract. Assumes nothing.
use mathlib.Core.Path.{refl, sym, ◌∙◌}
use native.Mathlib.Omega.{arith}
use Rattle.text.specs.Words.{blank, word_start}
use Rattle.text.proofs.InnerRuns.{run-stop, run-top, run_step}
use Rattle.text.proofs.words.word_start.Goals as goal

pub loop-i-init : goal.loop-i-init
unfolding word_start
loop-i-init c = refl

pub returns-then-not-is_blank : goal.returns-then-not-is_blank
returns-then-not-is_blank c = sym (c.loop-i.invariant ∙ run-stop blank _ _ _ (sym c.is_blank.ensures ∙ c.if-not-is_blank.true))

pub loop-i-preserved : goal.loop-i-preserved
loop-i-preserved c = c.loop-i.invariant ∙ run_step blank _ _ _ (omega arith) (sym c.is_blank.ensures ∙ c.if-not-is_blank.false)

pub returns : goal.returns
unfolding word_start
returns c = c.max.ensures ∙ run-top blank _ _ _ c.loop-i.i c.loop-i-test.false c.loop-i.auto.i-end c.loop-i.invariant
