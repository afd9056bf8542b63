-- `terrain::filled::lowest_near` meets its contract. Assumes nothing.
use Rattle.std.proofs.Common.{sym}
use Rattle.terrain.proofs.Filling.{lowest-none, lowest-more}
use Rattle.terrain.proofs.filled.lowest_near.Goals as goal

pub loop-k-init : goal.loop-k-init
loop-k-init c = let s = c.args in sym (lowest-none s.ground.rows s.ground.columns s.level.now s.x)

pub loop-k-preserved : goal.loop-k-preserved
loop-k-preserved c =
    let s = c.args in
    cc (lowest-more s.ground.rows s.ground.columns s.level.now s.x c.loop-k.k)
