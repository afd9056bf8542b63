-- `terrain::downhill::await_all` meets its contract. Assumes nothing.
use Rattle.std.proofs.Common.{refl, arith}
use Rattle.terrain.proofs.InnerDescending.{await-start, await-small, await-next}
use Rattle.terrain.proofs.downhill.await_all.Goals as goal

pub loop-x-init : goal.loop-x-init
loop-x-init c = await-start c.args.drawing.drawn 4294967295 (omega arith) c.mark.ensures

pub await_one-requires : goal.await_one-requires
await_one-requires c =
    let d = c.args.drawing.drawn in
    let a = c.loop-x.invariant in
    (omega (arith, a.long), a.long, λ h. omega (arith, await-small d a refl h, a.long, d.sized.small))

pub loop-x-preserved : goal.loop-x-preserved
loop-x-preserved c = await-next c.args.drawing.drawn c.loop-x.invariant c.await_one.ensures
