-- `terrain::trail::count_flow` meets its contract. Assumes nothing.
use Rattle.terrain.proofs.InnerDescending.{place-valid, place-cell}
use Rattle.terrain.proofs.InnerPassing.{Passing, pass-start, pass_step, pass_fits, pass_all}
use Rattle.laws.specs.Sums.{when}
use Rattle.std.proofs.Common.{ℕ, ◌+◌, List, sym, refl, subst, arith}
use Rattle.terrain.proofs.trail.count_flow.Goals as goal

pub loop-cell-init : goal.loop-cell-init
unfolding when
loop-cell-init c = pass-start c.requires.0 c.args.order.now c.mark.ensures

pub receiver-y-requires : goal.receiver-y-requires
receiver-y-requires c = place-valid c.requires.0.drawn c.requires.1 (omega arith) refl

pub bounds-count-x : goal.bounds-count-x
bounds-count-x c = omega (arith, place-cell c.requires.0.drawn {p = c.loop-cell.cell-index} c.requires.1 (omega arith) refl, c.loop-cell.invariant.long)

pub hand_on-requires : goal.hand_on-requires
hand_on-requires c =
    λ h. omega (arith, pass_fits c.requires.0 c.requires.1 c.loop-cell.invariant (omega arith) refl c.receiver-y.ensures (omega (arith, c.loop-cell.invariant.long)), c.requires.0.drawn.sized.small)

pub loop-cell-preserved : goal.loop-cell-preserved
loop-cell-preserved c =
    let on = pass_step c.requires.0 c.requires.1 c.loop-cell.invariant (omega arith) refl c.receiver-y.ensures in
    subst (λ (l : List ℕ). Passing c.args.drawing.rows c.args.drawing.columns c.args.drawing.direction.now c.args.order.now l (c.loop-cell.cell-index + 1)) (sym c.hand_on.ensures) on

pub returns : goal.returns
returns c = pass_all c.requires.0 c.requires.1 (omega arith) c.loop-cell.invariant
