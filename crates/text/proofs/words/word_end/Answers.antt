-- `text::words::word_end` meets its contract. Assumes nothing.
use mathlib.Core.Path.{refl, sym, ap, ◌∙◌}
use mathlib.Core.Bool.{not}
use native.Mathlib.Omega.{arith}
use Rattle.text.specs.Words.{solid, word_end}
use Rattle.text.proofs.InnerRuns.{run-stop, run-top, run_step}
use Rattle.text.proofs.words.word_end.Goals as goal

pub loop-i-init : goal.loop-i-init
unfolding word_end
loop-i-init c = refl

pub returns-then-is_blank : goal.returns-then-is_blank
returns-then-is_blank c = sym (c.loop-i.invariant ∙ run-stop solid _ _ _ (ap not (sym c.is_blank.ensures ∙ c.if-is_blank.true)))

pub loop-i-preserved : goal.loop-i-preserved
loop-i-preserved c = c.loop-i.invariant ∙ run_step solid _ _ _ (omega arith) (ap not (sym c.is_blank.ensures ∙ c.if-is_blank.false))

pub returns : goal.returns
unfolding word_end
returns c = c.max.ensures ∙ run-top solid _ _ _ c.loop-i.i c.loop-i-test.false c.loop-i.auto.i-end c.loop-i.invariant
