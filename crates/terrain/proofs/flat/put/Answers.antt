-- `terrain::flat::put` meets its contract. Assumes nothing.
use Rattle.std.proofs.Common.{arith}
use Rattle.terrain.specs.InnerFlats.{queued, dropped}
use Rattle.terrain.proofs.InnerStepping.{entry-is}
use Rattle.terrain.proofs.flat.put.Goals as goal

pub returns-then-queue-end : goal.returns-then-queue-end
returns-then-queue-end c = dropped c.if-queue-end.true

pub returns : goal.returns
returns c = rw (entry-is c.args.y c.requires.1) (queued (omega arith))
