-- `settings::whole_of` meets its contract. Assumes nothing.
use mathlib.Core.Path.{◌≡◌}
use mathlib.Core.Bool.{true, false}
use Prim.Native.Nat.{ℕ, suc, ◌≤◌, ◌<◌}
use native.Mathlib.Omega.{arith}
use lib.Ieee.{Float, eq}
use borrow.Author.Count.{below_more}
use Rattle.laws.proofs.First.{first-is, first-none}
use Rattle.std.proofs.Common.{Some}
use Rattle.settings.specs.Settings.{whole_of, whole_up_to, quotient}
use Rattle.settings.proofs.Cutoffs.{none-whole, some-whole}
use Rattle.settings.proofs.whole_of.Goals as goal

found : (d top n : ℕ) (x : Float) → n ≤ top → ((j : ℕ) → j < n → eq x (quotient d j) ≡ false) → eq x (quotient d n) ≡ true →
    Some n ≡ whole_up_to top (whole_of d top x)
unfolding whole_of
found d top n x h none here = rw (first-is (λ j. eq x (quotient d j)) (suc top) n none (omega arith) here) (some-whole top n h)

pub returns-then-x-from : goal.returns-then-x-from
unfolding quotient
returns-then-x-from c =
    found c.args.parts c.args.top c.loop-n.n c.args.x (omega arith) c.loop-n.invariant (rw (← c.from.ensures, ← c.from-in-loop-n.ensures) c.if-x-from.true)

pub loop-n-preserved : goal.loop-n-preserved
unfolding quotient
loop-n-preserved c = below_more _ c.loop-n.n c.loop-n.invariant (rw (← c.from.ensures, ← c.from-in-loop-n.ensures) c.if-x-from.false)

pub returns : goal.returns
unfolding whole_of
returns c =
    let e : whole_of c.args.parts c.args.top c.args.x ≡ suc c.args.top
    = first-none (λ j. eq c.args.x (quotient c.args.parts j)) (suc c.args.top) (λ j h. c.loop-n.invariant j (omega arith)) in
    none-whole c.args.top (whole_of c.args.parts c.args.top c.args.x) (omega (arith, e))
