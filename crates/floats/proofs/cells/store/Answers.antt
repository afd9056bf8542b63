-- `floats::cells::store` meets its contract. Assumes nothing.
use mathlib.Core.Path.{ap, ◌∙◌, subst}
use Prim.Native.Nat.{◌<◌}
use native.Mathlib.Omega.{arith}
use lib.ListN.{length}
use Rattle.laws.specs.Lists.{Agrees}
use Rattle.laws.proofs.Lists.{agrees-tab}
use Rattle.floats.specs.Answers.{fault_of, first_fault}
use Rattle.floats.proofs.InnerCells.{clear-before}
use Rattle.floats.proofs.cells.store.Goals as goal

pub height_of-requires : goal.height_of-requires
height_of-requires c =
    let n = length c.args.out.now in
    let few : c.loop-x.x < first_fault c.args.v c.args.floats.now n = omega (arith, c.requires.2, c.loop-x-test.true) in
    ap (fault_of c.args.v) c.bits_at.ensures ∙ clear-before c.args.v c.args.floats.now n c.loop-x.x few

pub returns : goal.returns
returns c = agrees-tab _ _ c.loop-x.out _ c.loop-x.auto.out (subst (Agrees _ _ c.loop-x.out) (omega arith) c.loop-x.invariant)
