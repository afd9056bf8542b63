-- `terrain::drawing::Drawing::mark` meets its contract. Assumes nothing.
use Rattle.terrain.proofs.Receivers.{mapped-read}
use Rattle.terrain.specs.Trail.{mapped_at}
use Rattle.laws.proofs.Lists.{agrees-more, agrees-tab}
use Rattle.std.proofs.Common.{ℕ, ◌*◌, Bool, cond, sym, ap, ◌∙◌, arith}
use Rattle.terrain.proofs.drawing.Drawing.mark.Goals as goal

pub loop-x-preserved : goal.loop-x-preserved
loop-x-preserved c =
    let d = c.args.self in
    agrees-more (λ (i : ℕ). cond (mapped_at d.rows d.columns d.direction.now i) c.args.valid c.args.none) 0 c.loop-x.numbers c.loop-x.x c.either.result (omega arith) c.loop-x.invariant
    (c.either.ensures ∙ ap (λ (b : Bool). cond b c.args.valid c.args.none) (sym (mapped-read d.drawn c.loop-x.x (omega arith))))

pub returns : goal.returns
returns c =
    let d = c.args.self in
    agrees-tab (λ (i : ℕ). cond (mapped_at d.rows d.columns d.direction.now i) c.args.valid c.args.none) 0 c.loop-x.numbers (d.rows * d.columns) (c.loop-x.auto.numbers ∙ c.requires) (λ j h. c.loop-x.invariant j (omega arith))
