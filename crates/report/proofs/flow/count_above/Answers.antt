-- `report::flow::count_above` meets its contract. Assumes nothing.
use mathlib.Core.Path.{◌≡◌, sym, ap, ◌∙◌}
use Prim.Native.Nat.{ℕ}
use native.Mathlib.Omega.{arith}
use lib.ListN.{length, get_or}
use lib.Dec.{ltb, eqb}
use Rattle.laws.specs.Sums.{when}
use Rattle.report.specs.Maps.{is_zero}
use Rattle.report.specs.InnerCells.{count_to, cells_to}
use Rattle.report.proofs.InnerCells.{count_none, count-more, count-few, wet-split, bit, when-bit}
use Rattle.report.proofs.InnerFlow.{cells-none, cells-more}
use Rattle.report.proofs.flow.count_above.Goals as goal

pub loop-x-init : goal.loop-x-init
loop-x-init g c =
    let l = c.args.count.now in
    record { dry = sym (count_none is_zero l); few = omega arith; channel = (λ b h. sym (cells-none (λ x. ltb (b x) (get_or l x 0)))) }

pub overflow_add-dry : goal.overflow_add-dry
overflow_add-dry g c = omega (arith, count-few is_zero c.args.count.now c.loop-x.x, when-bit (eqb (get_or c.args.count.now c.loop-x.x 0) 0))

pub loop-x-preserved : goal.loop-x-preserved
loop-x-preserved g c =
    let l = c.args.count.now in
    let n = c.loop-x.x in
    record {
      dry = omega (arith, count-more is_zero l n, bit (eqb (get_or l n 0) 0));
      few = omega (arith, when-bit (ltb c.bound_at.result (get_or l n 0)));
      channel = (λ b h.
          omega (
            arith,
            c.loop-x.invariant.channel b h,
            cells-more (λ x. ltb (b x) (get_or l x 0)) n,
            bit (ltb c.bound_at.result (get_or l n 0)),
            ap (λ (m : ℕ). when (ltb m (get_or l n 0)) 1) (h n _ c.loop-x-test.true c.bound_at.ensures),
          ));
    }

pub overflow_sub-result : goal.overflow_sub-result
overflow_sub-result g c = omega (arith, count-few is_zero c.args.count.now c.loop-x.x)

pub returns : goal.returns
returns g c =
    let l = c.args.count.now in
    let e : c.loop-x.x ≡ length l = omega arith in
    record {
      valid = omega (arith, wet-split l (length l), ap (count_to is_zero l) e);
      channel = (λ b h. c.loop-x.invariant.channel b h ∙ ap (cells_to (λ x. ltb (b x) (get_or l x 0))) e);
    }
