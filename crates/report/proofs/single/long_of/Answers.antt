-- `report::single::long_of` meets its contract. Assumes nothing.
use native.Mathlib.Omega.{arith}
use lib.ListN.{length}
use Rattle.report.proofs.InnerCells.{kinds-all}
use Rattle.report.proofs.single.long_of.Goals as goal

pub overflow_sub-result : goal.overflow_sub-result
overflow_sub-result c = omega (arith, kinds-all c.args.factors.now c.requires.0 (length c.args.factors.now), c.requires.1.known)

pub overflow_sub-result-2 : goal.overflow_sub-result-2
overflow_sub-result-2 c = omega (arith, kinds-all c.args.factors.now c.requires.0 (length c.args.factors.now), c.requires.1.known, c.requires.1.no-data)

pub returns : goal.returns
returns c = omega (arith, kinds-all c.args.factors.now c.requires.0 (length c.args.factors.now), c.requires.1.known, c.requires.1.no-data)
