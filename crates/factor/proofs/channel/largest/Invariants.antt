-- What the loops of `factor::channel::largest` keep, and what falls. Assumes nothing.
use mathlib.Core.Path.{◌≡◌}
use Rattle.factor.specs.Channel.{largest_of}
use Rattle.factor.proofs.channel.largest.Given as goal

abbrev pub invariant-loop-x : goal.invariant-loop-x
invariant-loop-x l = l.most ≡ largest_of l.x-index l.count
