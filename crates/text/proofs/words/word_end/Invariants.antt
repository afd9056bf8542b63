-- What the loops of `text::words::word_end` keep. Assumes nothing.
use mathlib.Core.Path.{◌≡◌}
use Prim.Native.Nat.{◌-◌}
use lib.ListN.{length}
use Rattle.text.specs.Words.{solid, run, word_end}
use Rattle.text.proofs.words.word_end.Given as goal

abbrev pub invariant-loop-i : goal.invariant-loop-i
invariant-loop-i l = word_end l.s l.at ≡ run solid l.s l.i (length l.s - l.i)
