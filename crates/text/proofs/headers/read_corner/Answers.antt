-- `text::headers::read_corner` meets its contract. Assumes nothing.
use mathlib.Core.Path.{sym}
use Rattle.text.proofs.InnerFields.{corner-from, corner-on}
use Rattle.text.proofs.headers.read_corner.Goals as goal

pub overflow_sub-result : goal.overflow_sub-result
overflow_sub-result c = corner-from _ _ _ _ (sym c.in_ok-number.ensures.0)

pub returns : goal.returns
returns c = corner-on _ _ _ _ (sym c.in_ok-number.ensures.0)
