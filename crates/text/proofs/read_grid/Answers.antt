-- `text::read_grid` meets its contract. Assumes nothing.
use mathlib.Core.Path.{sym, ◌∙◌}
use Rattle.text.proofs.InnerGrids.{grid-on}
use Rattle.text.proofs.read_grid.Goals as goal

pub returns : goal.returns
returns c = c.read-2.ensures ∙ grid-on c.args.heights.now _ _ _ (sym c.in_ok-head.ensures.0)
