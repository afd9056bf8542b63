-- `fullsize::crossing::channel_of` meets its contract. Assumes nothing.
use native.Mathlib.Omega.{arith}
use borrow.Author.Tests.{ne_eqb}
use lib.Ieee.{of_bits}
use Rattle.fullsize.specs.Crossing.{channel_of, no_rule}
use Rattle.fullsize.proofs.crossing.channel_of.Goals as goal

pub returns-in-0 : goal.returns-in-0
unfolding channel_of
returns-in-0 c = rw c.in-0.is

pub returns-in-1 : goal.returns-in-1
unfolding channel_of
returns-in-1 c = rw c.in-1.is

pub returns-in-2 : goal.returns-in-2
unfolding channel_of
returns-in-2 c = rw c.in-2.is

pub returns-in_default : goal.returns-in_default
unfolding channel_of no_rule of_bits
returns-in_default c =
    let k = c.args.kind in
    simp (ne_eqb k 0 (λ e. omega arith), ne_eqb k 1 (λ e. omega arith), ne_eqb k 2 (λ e. omega arith))
