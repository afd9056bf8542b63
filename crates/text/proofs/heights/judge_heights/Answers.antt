-- `text::heights::judge_heights` meets its contract. Assumes nothing.
use mathlib.Core.Path.{◌≡◌, sym, ap, ◌∙◌}
use native.Mathlib.Omega.{arith}
use lib.IntN.{ℤ}
use mir.Facts.{to_z-of_z}
use borrow.Author.Rules.{rules}
use Rattle.std.proofs.Common.{Err}
use Rattle.text.specs.Heights.{heights}
use Rattle.text.specs.InnerHeights.{forget}
use Rattle.text.proofs.InnerGrids.{judge-off, judge-on, judge-all}
use Rattle.text.proofs.heights.judge_heights.Goals as goal

pub returns-in_err-rest : goal.returns-in_err-rest
returns-in_err-rest c =
    let e : c.from_residual.result ≡ Err c.in_err-rest.field-0.0 = search rules in
    rw (e, ← to_z-of_z c.ranges.n, c.loop-judged.invariant)
    (sym (judge-off _ _ _ _ _ _ (omega arith) (sym c.in_err-rest.ensures.0)))

pub loop-judged-preserved : goal.loop-judged-preserved
loop-judged-preserved c = c.loop-judged.invariant ∙ judge-on _ _ _ _ _ _ _ (omega arith) (sym c.in_ok-rest.ensures.0)

pub returns : goal.returns
returns c = judge-all _ _ _ _ (omega arith) ∙ sym c.loop-judged.invariant ∙ ap (λ (n : ℤ). forget (heights n c.args.count c.args.s.now c.args.k.at)) (to_z-of_z c.ranges.n)
