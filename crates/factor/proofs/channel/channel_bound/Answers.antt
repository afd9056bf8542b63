-- `factor::channel::channel_bound` meets its contract. Assumes nothing.
use borrow.Author.Tests.{le-ltb}
use Rattle.factor.specs.Channel.{is_channel}
use Rattle.factor.proofs.InnerChannels.{share-test}
use Rattle.factor.proofs.channel.channel_bound.Goals as goal

pub returns-in-Share : goal.returns-in-Share
unfolding is_channel
returns-in-Share c = λ k h. rw (c.in-Share.is, c.from.ensures, c.from-in-Share.ensures) (share-test _ k)

pub returns-in-Over : goal.returns-in-Over
unfolding is_channel
returns-in-Over c = λ k h. rw (c.in-Over.is, c.from-in-Over.ensures)

pub returns-in-Never : goal.returns-in-Never
unfolding is_channel
returns-in-Never c = λ k h. rw (c.in-Never.is, c.from-in-Never.ensures) (le-ltb _ k h)
