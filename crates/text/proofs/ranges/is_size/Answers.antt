-- `text::ranges::is_size` meets its contract. Assumes nothing.
use mathlib.Core.Path.{◌≡◌, sym, ◌∙◌}
use Prim.Native.Nat.{ℕ, ◌≤◌}
use native.Mathlib.Decide.{dec_lt}
use native.Mathlib.Omega.{arith}
use borrow.Author.Rules.{rules}
use borrow.Author.Tests.{lt-leb, le-leb}
use lib.Dec.{leb}
use Rattle.laws.proofs.Tests.{and-false-left, and-true-left}
use Rattle.text.specs.Quantities.{extent_in}
use Rattle.text.specs.Ranges.{size_accepted}
use Rattle.text.proofs.InnerTested.{size_none, size-some}
use Rattle.text.proofs.ranges.is_size.Goals as goal

-- it is 0, or judged by its upper bound
by_bound : (n : ℕ) → extent_in n ≡ size_accepted n
by_bound n =
    elim (dec_lt n 1) [
      | yes l ↦ sym (and-false-left (leb 1 n) (leb n 1024) (lt-leb 1 n l)) ∙ size_none n l
      | no f ↦ let k : 1 ≤ n = omega (arith, f) in sym (and-true-left (leb 1 n) (leb n 1024) (le-leb 1 n k)) ∙ size-some n k
    ]

pub returns : goal.returns
returns c = let e : c.contains.result ≡ extent_in c.args.n = search rules in e ∙ by_bound c.args.n
