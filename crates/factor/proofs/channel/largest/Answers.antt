-- `factor::channel::largest` meets its contract. Assumes nothing.
use mathlib.Core.Path.{sym}
use native.Mathlib.Omega.{arith}
use lib.ListN.{get_or}
use Rattle.laws.proofs.Sums.{greatest-none, greatest-more}
use Rattle.factor.specs.Channel.{largest_of}
use Rattle.factor.proofs.channel.largest.Goals as goal

pub loop-x-init : goal.loop-x-init
unfolding largest_of
loop-x-init c = sym (greatest-none (λ y. get_or c.args.count.now y 0))

pub loop-x-preserved : goal.loop-x-preserved
unfolding largest_of
loop-x-preserved c = omega (arith, c.loop-x.invariant, c.max-most.ensures, greatest-more c.loop-x.x-index (λ y. get_or c.args.count.now y 0))
