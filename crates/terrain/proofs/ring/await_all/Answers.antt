-- `terrain::ring::await_all` meets its contract. Assumes nothing.
use Rattle.std.proofs.Common.{arith}
use Rattle.terrain.proofs.InnerRinging.{count-start, count_fits, count_next, same_none}
use Rattle.terrain.proofs.ring.await_all.Goals as goal

pub loop-x-init : goal.loop-x-init
loop-x-init c = (count-start c.requires, same_none c.args.words.now)

pub await_one-requires : goal.await_one-requires
await_one-requires c = let s = c.loop-x.invariant.0 in (omega (arith, s.noted.long), s.noted.long, count_fits s)

pub loop-x-preserved : goal.loop-x-preserved
loop-x-preserved c = count_next c.loop-x.invariant.0 c.loop-x.invariant.1 c.await_one.ensures
