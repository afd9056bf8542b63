-- `text::words::Cursor::word` meets its contract. Assumes nothing.
use mathlib.Core.Path.{sym}
use Rattle.text.proofs.Ends.{word_none}
use Rattle.text.proofs.InnerSteps.{word-step}
use Rattle.text.proofs.words.Cursor.word.Goals as goal

pub returns-then-start-s : goal.returns-then-start-s
returns-then-start-s c = word-step _ _ _ _ c.word_start-start.ensures c.word_end-end.ensures c.if-start-s.true

pub returns-else-start-s : goal.returns-else-start-s
returns-else-start-s c = (sym (word_none _ _ _ c.word_start-start.ensures c.if-start-s.false), tt)
