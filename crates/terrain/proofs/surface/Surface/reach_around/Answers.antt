-- `terrain::surface::Surface::reach_around` meets its contract. Assumes nothing.
use Rattle.std.proofs.Common.{arith}
use Rattle.terrain.proofs.InnerWading.{flat-beside, flat-lands, spreading-more, spreading-all}
use Rattle.terrain.proofs.surface.Surface.reach_around.Goals as goal

pub beside-requires : goal.beside-requires
beside-requires c = flat-beside c.args.self.levels c.args.x _ c.requires.1.flat (omega arith)

pub reach-last-requires : goal.reach-last-requires
reach-last-requires c =
    let l = c.args.self.levels in
    let t = c.loop-k.invariant c.requires.0 c.requires.1 in
    let on = (flat-lands l c.args.x c.loop-k.k t.flat (omega arith) c.beside.ensures).1 in
    (omega (arith, on, t.wading.kept.long), omega (arith, on, l.sized.small), t.wading.fits)

pub loop-k-preserved : goal.loop-k-preserved
loop-k-preserved c =
    let l = c.args.self.levels in
    λ from s. let t = c.loop-k.invariant from s in spreading-more l t (omega arith) (flat-lands l c.args.x c.loop-k.k t.flat (omega arith) c.beside.ensures).0 c.reach-last.ensures

pub returns : goal.returns
returns c = λ from s. spreading-all c.args.self.levels (c.loop-k.invariant from s) (omega arith)
