-- `report::single::report_with` meets its contract. Assumes nothing.
use Rattle.report.proofs.InnerSingle.{class-1, class-5, class-10, single-is}
use Rattle.report.specs.Maps.{map_of}
use lib.ListN.{length}
use native.Mathlib.Omega.{arith}
use mathlib.Core.Path.{refl}
use Rattle.report.proofs.single.report_with.Goals as goal

pub overflow_sub-t : goal.overflow_sub-t
overflow_sub-t c = omega (arith, class-1 c.args.factors.now (length c.args.factors.now) c.tally_of-t.result c.tally_of-t.ensures)

pub overflow_sub-t-2 : goal.overflow_sub-t-2
overflow_sub-t-2 c = omega (arith, class-5 c.args.factors.now (length c.args.factors.now) c.tally_of-t.result c.tally_of-t.ensures)

pub overflow_sub-t-3 : goal.overflow_sub-t-3
overflow_sub-t-3 c = omega (arith, class-10 c.args.factors.now (length c.args.factors.now) c.tally_of-t.result c.tally_of-t.ensures (λ x. omega (arith, c.type_inv.factors x)))

pub returns : goal.returns
returns c =
    λ rows columns farms count cells va ch.
    let m = map_of rows columns farms count c.args.factors.now in
    rw
    (c.from.ensures, c.from-2.ensures, c.from-3.ensures, c.from-4.ensures, c.from-5.ensures, c.from-6.ensures, c.from-7.ensures)
    (single-is m (length c.args.factors.now) cells c.tally_of-t.result (λ x. omega (arith, c.type_inv.factors x)) c.tally_of-t.ensures va ch
    c.long_of.ensures c.sum_of.ensures (c.greatest_of.ensures m refl cells))
