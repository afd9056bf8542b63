-- What the loops of `terrain::queue::Lists::open_band` keep. Assumes nothing.
use Rattle.terrain.specs.InnerFlood.{Queueing}
use Rattle.terrain.proofs.queue.Lists.open_band.Given as goal

abbrev pub invariant-turns : goal.invariant-turns
invariant-turns l = Queueing (λ z. ⊥) l.initial.words l.words
