-- `terrain::surface::Surface::first_broken` meets its contract. Assumes nothing.
use Rattle.std.proofs.Common.{◌*◌, ◌<◌, not, sym, ap, ◌∙◌, arith}
use Rattle.laws.proofs.First.{first-is, first-none}
use Rattle.terrain.specs.Given.{kept_at, first_broken}
use Rattle.terrain.proofs.InnerGiving.{below_is, below-none}
use Rattle.terrain.proofs.surface.Surface.first_broken.Goals as goal

pub returns-then-not-is_kept : goal.returns-then-not-is_kept
unfolding first_broken
returns-then-not-is_kept c =
    let here : c.loop-x.x < c.args.self.rows * c.args.self.columns = omega (arith, c.requires) in
    let a = c.args in
    below_is here (first-is (λ x. not (kept_at a.self.rows a.self.columns a.self.level.now a.direction.now x)) (a.self.rows * a.self.columns) c.loop-x.x c.loop-x.invariant here (ap not (sym c.is_kept.ensures ∙ c.if-not-is_kept.true)))

pub returns : goal.returns
unfolding first_broken
returns c =
    let a = c.args in
    below-none (first-none (λ x. not (kept_at a.self.rows a.self.columns a.self.level.now a.direction.now x)) (a.self.rows * a.self.columns) (λ j h. c.loop-x.invariant j (omega (arith, c.requires))))
