-- `terrain::surface::Surface::is_shore` meets its contract. Assumes nothing.
use Rattle.std.proofs.Common.{arith}
use Rattle.terrain.proofs.InnerWading.{flat-lt, flat-beside, flat-lands, shore-none, shore-more}
use Rattle.terrain.proofs.surface.Surface.is_shore.Goals as goal

pub offset_bounds-level-x : goal.offset_bounds-level-x
offset_bounds-level-x c = let l = c.args.self.levels in omega (arith, l.long, flat-lt l c.args.x c.requires.0)

pub bounds-level-x : goal.bounds-level-x
bounds-level-x c = let l = c.args.self.levels in omega (arith, l.long, flat-lt l c.args.x c.requires.0)

pub loop-k-init : goal.loop-k-init
loop-k-init c = shore-none _ _ _ _ _

pub beside-y-requires : goal.beside-y-requires
beside-y-requires c = flat-beside c.args.self.levels c.args.x _ c.requires.0 (omega arith)

pub offset_bounds-level-y : goal.offset_bounds-level-y
offset_bounds-level-y c = let l = c.args.self.levels in omega (arith, l.long, flat-lands l c.args.x c.loop-k.k c.requires.0 (omega arith) c.beside-y.ensures)

pub bounds-level-y : goal.bounds-level-y
bounds-level-y c = let l = c.args.self.levels in omega (arith, l.long, flat-lands l c.args.x c.loop-k.k c.requires.0 (omega arith) c.beside-y.ensures)

pub offset_bounds-steps-y : goal.offset_bounds-steps-y
offset_bounds-steps-y c = omega (arith, flat-lands c.args.self.levels c.args.x c.loop-k.k c.requires.0 (omega arith) c.beside-y.ensures)

pub bounds-steps-y : goal.bounds-steps-y
bounds-steps-y c = omega (arith, flat-lands c.args.self.levels c.args.x c.loop-k.k c.requires.0 (omega arith) c.beside-y.ensures)

pub loop-k-preserved : goal.loop-k-preserved
loop-k-preserved c =
    let a = c.args in
    shore-more _ _ _ _ _ c.loop-k.k c.loop-k.invariant (flat-lands a.self.levels a.x c.loop-k.k c.requires.0 (omega arith) c.beside-y.ensures).0
