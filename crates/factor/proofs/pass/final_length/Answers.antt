-- `factor::pass::final_length` meets its contract. Assumes nothing.
use mathlib.Core.Path.{◌≡◌, ◌∙◌}
use mathlib.Core.Bool.{cond}
use Prim.Native.Nat.{ℕ, ◌-◌, ◌≤◌}
use native.Mathlib.Omega.{arith}
use lib.Dec.{ltb}
use borrow.Author.Tests.{lt-ltb, le-ltb}
use Rattle.std.specs.Option.{SomeIff, unwrap_or}
use Rattle.std.proofs.Common.{Option, Some, None}
use Rattle.factor.specs.Inner.{final_length}
use Rattle.factor.proofs.pass.final_length.Goals as goal

pub returns-then-most-from : goal.returns-then-most-from
unfolding final_length
returns-then-most-from c = simp (lt-ltb c.args.most c.args.count (omega (arith, c.if-most-from.true, c.from.ensures)))

taken : (o : Option ℕ) (start gathered : ℕ) → SomeIff o (1 ≤ gathered) (gathered - 1) → unwrap_or o start ≡ cond (ltb gathered 1) start (gathered - 1)
taken None start gathered h = simp (lt-ltb gathered 1 (omega (arith, h)))
taken (Some x) start gathered h = simp (le-ltb gathered 1 h.0, h.1)

pub returns : goal.returns
unfolding final_length
returns c =
    simp (le-ltb c.args.most c.args.count (omega (arith, c.if-most-from.false, c.from.ensures)))
    (c.unwrap_or.ensures ∙ taken c.checked_sub.result c.args.start c.args.gathered c.checked_sub.ensures)
