-- What the loop of `terrain::drawing::Drawing::mark` keeps. Assumes nothing.
use Rattle.terrain.specs.Trail.{mapped_at}
use Rattle.laws.specs.Lists.{Agrees}
use Rattle.std.proofs.Common.{ℕ, cond}
use Rattle.terrain.proofs.drawing.Drawing.mark.Given as goal

abbrev pub invariant-loop-x : goal.invariant-loop-x
invariant-loop-x l = Agrees (λ (i : ℕ). cond (mapped_at l.self.rows l.self.columns l.self.direction.now i) l.valid l.none) 0 l.numbers l.x
