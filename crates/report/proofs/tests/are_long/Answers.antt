-- `report::tests::are_long` meets its contract. Assumes nothing.
use mathlib.Core.Path.{◌≡◌, refl, ap, ◌∙◌}
use mathlib.Core.List.{List, [], ◌∷◌}
use mathlib.Core.Bool.{◌&&◌}
use Prim.Native.Nat.{ℕ}
use lib.Dec.{eqb}
use borrow.Author.Tests.{tests}
use Rattle.std.proofs.Common.{rules}
use Rattle.std.specs.List.{list_all}
use Rattle.std.proofs.lemmas.Iterator.{YieldsList-from_slice}
use Rattle.std.proofs.lemmas.Iterator.Search.{all_from_yields_List}
use Rattle.text.specs.Ranges.{all_long}
use Rattle.report.proofs.tests.are_long.Goals as goal

all-is : (n : ℕ) (l : List ℕ) → list_all (λ a. eqb a n) l ≡ all_long n l
unfolding all_long
all-is n [] = refl
all-is n (a ∷ l) = ap (λ b. eqb a n && b) (all-is n l)

pub returns : goal.returns
returns c =
    all_from_yields_List (λ a. eqb a c.args.cells) _ _ c.all.result c.all.ensures.ran (YieldsList-from_slice c.args.lengths.now cc) (λ x b q k. search (rules, tests))
    ∙ all-is c.args.cells c.args.lengths.now
