-- `terrain::filled::has_lower` meets its contract. Assumes nothing.
use Rattle.std.proofs.Common.{◌∙◌, arith}
use Rattle.terrain.proofs.InnerInterior.{inside_is, inside-lt}
use Rattle.terrain.proofs.InnerFlooding.{lower-none, lower-more}
use Rattle.terrain.proofs.filled.has_lower.Goals as goal

pub loop-k-init : goal.loop-k-init
loop-k-init c = let a = c.args in lower-none a.ground.rows a.ground.columns a.level.now a.x a.v

pub offset_bounds-level-beside : goal.offset_bounds-level-beside
offset_bounds-level-beside c = omega (arith, inside-lt c.args.ground.rows c.args.ground.columns c.args.x c.loop-k.k c.beside.result c.requires.1 (omega arith) c.beside.ensures)

pub bounds-level-beside : goal.bounds-level-beside
bounds-level-beside c = omega (arith, inside-lt c.args.ground.rows c.args.ground.columns c.args.x c.loop-k.k c.beside.result c.requires.1 (omega arith) c.beside.ensures)

pub loop-k-preserved : goal.loop-k-preserved
loop-k-preserved c =
    let a = c.args in
    lower-more a.ground.rows a.ground.columns a.level.now a.x a.v c.loop-k.k c.loop-k.invariant (c.beside.ensures ∙ inside_is a.ground.rows a.ground.columns a.x c.loop-k.k c.requires.1 (omega arith))
