-- What the loops of `terrain::queue::Lists::drain` keep. Assumes nothing.
use Rattle.terrain.specs.InnerFlood.{FloodedTo, level_in}
use Rattle.std.proofs.Common.{◌≡◌}
use Rattle.terrain.proofs.queue.Lists.drain.Given as goal

abbrev pub invariant-turns : goal.invariant-turns
invariant-turns l = FloodedTo l.ground.rows l.ground.columns l.initial.words l.words l.level × (l.level ≡ level_in l.band l.list)
