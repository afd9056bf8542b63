-- `factor::guess::is_sine` meets its contract. Assumes nothing.
use mathlib.Core.Path.{sym, ◌∙◌}
use mathlib.Core.Bool.{not}
use borrow.Author.Tests.{not-true}
use Rattle.laws.proofs.Tests.{and_both}
use Rattle.factor.proofs.Sines.{sine-here}
use Rattle.factor.proofs.guess.is_sine.Goals as goal

pub returns : goal.returns
returns c =
    λ e. let t = and_both c.sine_reaches.result (not c.sine_reaches-2.result) e in
    sym
    (sine-here c.args.side c.args.q c.args.u c.requires.0.side-some
    (sym c.sine_reaches.ensures ∙ t.0) (sym c.sine_reaches-2.ensures ∙ not-true c.sine_reaches-2.result t.1))
