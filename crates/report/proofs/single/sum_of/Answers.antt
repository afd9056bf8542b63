-- `report::single::sum_of` meets its contract. Assumes nothing.
use native.Mathlib.Omega.{arith}
use lib.ListN.{length}
use Rattle.report.proofs.InnerCells.{all-few, parts_all}
use Rattle.report.proofs.single.sum_of.Goals as goal

pub overflow_mul-result : goal.overflow_mul-result
overflow_mul-result c =
    let l = c.args.factors.now in
    rw c.from.ensures (omega (arith, all-few l c.requires.0 (length l), parts_all l c.requires.0 (length l)))

pub overflow_sub-result : goal.overflow_sub-result
overflow_sub-result c =
    let l = c.args.factors.now in
    rw c.from.ensures (omega (arith, parts_all l c.requires.0 (length l), c.requires.1.sum))

pub overflow_sub-result-2 : goal.overflow_sub-result-2
overflow_sub-result-2 c =
    let l = c.args.factors.now in
    rw (c.from.ensures, c.from-2.ensures, c.from-3.ensures) (omega (arith, parts_all l c.requires.0 (length l), c.requires.1.sum, c.requires.1.no-data))

pub returns : goal.returns
returns c =
    let l = c.args.factors.now in
    rw (c.from.ensures, c.from-2.ensures, c.from-3.ensures) (omega (arith, parts_all l c.requires.0 (length l), c.requires.1.sum, c.requires.1.no-data))
