-- `terrain::filled::sweep` meets its contract. Assumes nothing.
use Rattle.std.proofs.Common.{refl}
use Rattle.laws.proofs.Settle.{sweep-more}
use Rattle.terrain.proofs.Filling.{filling-rule}
use Rattle.terrain.proofs.filled.sweep.Goals as goal

pub loop-x-preserved : goal.loop-x-preserved
loop-x-preserved c = sweep-more _ _ (filling-rule _ _ _ c.args.ground.ready) _ _ c.loop-x.x c.loop-x.lowered _ c.lower-lowered.result _ c.loop-x.invariant c.lower-lowered.ensures.told c.lower-lowered.ensures.is refl
