-- `factor::pass::measure` meets its contract. Assumes nothing.
use Rattle.factor.specs.Farms.{of_farm}
use Rattle.factor.proofs.InnerWalking.{Walking, measure-charted, walk_start, walk-turning, walk_turn, walk-all}
use Rattle.factor.specs.InnerPass.{farm_by, Naming, Farmed}
use lib.ListN.{length}
use native.Mathlib.Omega.{arith}
use Prim.Native.Nat.{ℕ}
use mathlib.Core.Path.{◌≡◌, refl, sym, subst}
use Rattle.factor.proofs.pass.measure.Goals as goal

pub turn-requires : goal.turn-requires
turn-requires c =
    let a = c.args in
    let m = c.requires.2 in
    let q = measure-charted m a.rules.first a.rules.second (farm_by a.marks)
    (subst (λ (n : ℕ). Farmed a.rules.first n c.new.result) c.largest-most.ensures c.new.ensures)
    (subst (λ (n : ℕ). Farmed a.rules.second n c.new-2.result) c.largest-most.ensures c.new-2.ensures) in
    let w = c.loop-cell.invariant.2 c.requires.0 c.requires.1 (λ x. of_farm a.rules.first a.rules.second (farm_by a.marks x)) q
    (walk_start m (λ x. of_farm a.rules.first a.rules.second (farm_by a.marks x)) (c.fill.ensures.after (λ y e. e))) in (
      walk-turning q w c.loop-cell-test.true refl,
      c.all-lists.ensures,
      c.shifts_of-shifts.ensures m.directed.drawn.sized.cols-small,
      subst (λ (n : ℕ). Naming n a.marks) (sym m.directed.drawn.long) c.requires.3,
    )

pub loop-cell-preserved : goal.loop-cell-preserved
loop-cell-preserved c = (
  omega arith,
  omega arith,
  λ rows lv rules m w. walk_turn m (c.loop-cell.invariant.2 rows lv rules m w) c.loop-cell-test.true refl c.turn.ensures,
)

pub returns : goal.returns
returns c =
    let a = c.args in
    let e : c.loop-cell.cell-index ≡ length a.order.now = omega arith in
    λ rows lv m k.
    let q = measure-charted m a.rules.first a.rules.second (farm_by a.marks)
    (subst (λ (n : ℕ). Farmed a.rules.first n c.new.result) c.largest-most.ensures c.new.ensures)
    (subst (λ (n : ℕ). Farmed a.rules.second n c.new-2.result) c.largest-most.ensures c.new-2.ensures) in
    walk-all m (λ x. of_farm a.rules.first a.rules.second (farm_by a.marks x))
    (subst (Walking rows a.columns a.side (λ x. of_farm a.rules.first a.rules.second (farm_by a.marks x)) lv a.direction.now a.count.now
    a.order.now c.loop-cell.lengths c.loop-cell.factors) e
    (c.loop-cell.invariant.2 rows lv (λ x. of_farm a.rules.first a.rules.second (farm_by a.marks x)) q
    (walk_start m (λ x. of_farm a.rules.first a.rules.second (farm_by a.marks x)) (c.fill.ensures.after (λ y e. e)))))
