-- `text::words::Cursor::number` meets its contract. Assumes nothing.
use mathlib.Core.Path.{sym, ap, ◌∙◌}
use Rattle.text.specs.Numbers.{is_formed}
use Rattle.text.specs.InnerNumbers.{form_of}
use Rattle.text.proofs.Ends.{first-solid}
use Rattle.text.proofs.InnerSteps.{number-none, number-bad, number-on}
use Rattle.text.proofs.words.Cursor.number.Goals as goal

pub returns-then-s-start : goal.returns-then-s-start
returns-then-s-start c = (number-none _ _ _ c.word_start-start.ensures c.if-s-start.true, tt)

pub read_form-requires : goal.read_form-requires
read_form-requires c = (c.if-s-start.false, first-solid _ _ _ c.word_start-start.ensures c.if-s-start.false)

pub refuse-requires : goal.refuse-requires
refuse-requires c = (
  c.if-s-start.false,
  first-solid _ _ _ c.word_start-start.ensures c.if-s-start.false,
  λ z. ap is_formed (sym c.read_form.ensures.is ∙ ap form_of c.in-Err.is),
)

pub returns-in-Err : goal.returns-in-Err
returns-in-Err c =
    (number-bad _ _ _ c.word_start-start.ensures c.if-s-start.false _ c.read_form.ensures _ c.in-Err.is _ c.refuse.ensures, tt)

pub returns-in-Ok : goal.returns-in-Ok
returns-in-Ok c = number-on _ _ _ c.word_start-start.ensures c.if-s-start.false _ c.read_form.ensures _ c.in-Ok.is
