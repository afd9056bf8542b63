-- What the loops of `terrain::queue::Lists::reach_line` keep, and what falls. Assumes nothing.
use Rattle.terrain.specs.InnerFlood.{Queueing, OnLine}
use Rattle.std.proofs.Common.{◌≡◌, ℕ, ◌+◌, ◌-◌, ◌*◌}
use Rattle.terrain.proofs.queue.Lists.reach_line.Given as goal

abbrev pub invariant-loop-y : goal.invariant-loop-y
invariant-loop-y l = Queueing (OnLine l.from l.step l.to) l.initial.words l.words × ((turns : ℕ) × (l.y ≡ l.from + turns * l.step))

abbrev pub decreases-loop-y : goal.decreases-loop-y
decreases-loop-y l = l.to - l.y
