-- `factor::guess::is_length_factor` meets its contract. Assumes nothing.
use mathlib.Core.Path.{sym, ◌∙◌}
use mathlib.Core.Bool.{not}
use native.Mathlib.Omega.{arith}
use borrow.Author.Tests.{not-true}
use Rattle.laws.proofs.Tests.{and_both}
use Rattle.factor.proofs.Power.{factor-here}
use Rattle.factor.proofs.guess.is_length_factor.Goals as goal

pub returns : goal.returns
returns c =
    λ e. let t = and_both c.length_reaches.result (not c.length_reaches-2.result) e in
    sym (factor-here _ c.args.mm c.args.t (omega arith) (sym c.length_reaches.ensures ∙ t.0) (sym c.length_reaches-2.ensures ∙ not-true c.length_reaches-2.result t.1))
