-- `text::ranges::is_side` meets its contract. Assumes nothing.
use mathlib.Core.Path.{◌≡◌, sym, ◌∙◌}
use Prim.Native.Nat.{ℕ, ◌≤◌}
use native.Mathlib.Decide.{dec_lt}
use native.Mathlib.Omega.{arith}
use borrow.Author.Rules.{rules}
use borrow.Author.Tests.{lt-leb, le-leb}
use lib.Dec.{leb}
use lib.IntN.{pos}
use Rattle.laws.proofs.Tests.{and-false-left, and-true-left}
use Rattle.text.specs.Quantities.{side_in}
use Rattle.text.specs.Ranges.{side_accepted}
use Rattle.text.proofs.InnerTested.{cell-side-none, cell-side-some}
use Rattle.text.proofs.ranges.is_side.Goals as goal

-- it is 0, or judged by its upper bound
by_bound : (n : ℕ) → side_in (pos n) ≡ side_accepted n
by_bound n =
    elim (dec_lt n 1) [
      | yes l ↦ sym (and-false-left (leb 1 n) (leb n 100000) (lt-leb 1 n l)) ∙ cell-side-none n l
      | no f ↦ let k : 1 ≤ n = omega (arith, f) in sym (and-true-left (leb 1 n) (leb n 100000) (le-leb 1 n k)) ∙ cell-side-some n k
    ]

pub returns : goal.returns
returns c = let e : c.contains.result ≡ side_in (pos c.args.side) = search rules in e ∙ by_bound c.args.side
