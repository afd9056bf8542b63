-- What the loops of `text::words::word_start` keep. Assumes nothing.
use mathlib.Core.Path.{◌≡◌}
use Prim.Native.Nat.{◌-◌}
use lib.ListN.{length}
use Rattle.text.specs.Words.{blank, run, word_start}
use Rattle.text.proofs.words.word_start.Given as goal

abbrev pub invariant-loop-i : goal.invariant-loop-i
invariant-loop-i l = word_start l.s l.at ≡ run blank l.s l.i (length l.s - l.i)
