-- `report::classes::count_below` meets its contract. Assumes nothing.
use native.Mathlib.Omega.{arith}
use Prim.Native.Nat.{◌+◌}
use lib.ListN.{get_or}
use Rattle.factor.specs.Cell.{too_long}
use Rattle.report.specs.InnerCells.{below, is_no_data, Counted}
use Rattle.report.proofs.InnerCells.{counted_none, counted-few, count-more, bit}
use Rattle.report.proofs.classes.count_below.Goals as goal

pub loop-v-init : goal.loop-v-init
loop-v-init c = (counted_none c.args.block.now c.args.given, counted-few (counted_none c.args.block.now c.args.given))

pub loop-v-preserved : goal.loop-v-preserved
loop-v-preserved c =
    let l = c.args.block.now in
    let n = c.loop-v.v-index in
    let so_far = c.loop-v.invariant.0 in
    let next : Counted l (n + 1) c.args.given _ = record {
      zero = omega (arith, so_far.zero, count-more (below 1) l n, c.from.ensures, bit (below 1 (get_or l n 0)));
      under1 = omega (arith, so_far.under1, count-more (below 100000) l n, c.from-in-loop-v.ensures, bit (below 100000 (get_or l n 0)));
      under5 = omega (arith, so_far.under5, count-more (below 500000) l n, c.from-in-loop-v-2.ensures, bit (below 500000 (get_or l n 0)));
      under10 = omega (arith, so_far.under10, count-more (below 1000000) l n, c.from-in-loop-v-3.ensures, bit (below 1000000 (get_or l n 0)));
      known = omega (arith, so_far.known, count-more (below too_long) l n, c.from-in-loop-v-4.ensures, bit (below too_long (get_or l n 0)));
      no-data = omega (arith, so_far.no-data, count-more is_no_data l n, c.from-in-loop-v-5.ensures, bit (is_no_data (get_or l n 0)));
      lower = omega (arith, so_far.lower, count-more (below c.args.given) l n, c.from-in-loop-v-6.ensures, bit (below c.args.given (get_or l n 0)));
    } in
    (next, counted-few next)
