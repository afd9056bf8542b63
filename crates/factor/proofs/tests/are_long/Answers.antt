-- `factor::tests::are_long` meets its contract. Assumes nothing.
use mathlib.Core.Path.{◌≡◌, ap, ◌∙◌}
use mathlib.Core.Bool.{Bool}
use mathlib.Core.List.{List, ◌∷◌, ◌++◌}
use Prim.Native.Nat.{ℕ}
use lib.Dec.{eqb}
use borrow.Author.Tests.{eq-eqb}
use Rattle.std.specs.Option.{unwrap_or}
use Rattle.std.proofs.Common.{Option, Some, None, refl}
use Rattle.text.specs.Ranges.{all_long}
use Rattle.text.proofs.Accepted.{joined, joined-long}
use Rattle.factor.specs.Inner.{places_with}
use Rattle.factor.proofs.tests.are_long.Goals as goal

marked-long : (n : ℕ) (marks : Option ℕ) (l : List ℕ) → joined n (eqb (unwrap_or marks n) n) l ≡ all_long n (places_with marks ++ l)
marked-long n None l = ap (λ (b : Bool). joined n b l) (eq-eqb n n refl) ∙ joined-long n l
marked-long n (Some m) l = joined-long n (m ∷ l)

pub returns : goal.returns
returns c = rw c.unwrap_or.ensures (marked-long c.args.cells c.args.marks _)
