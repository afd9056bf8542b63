-- `text::ranges::is_height` meets its contract. Assumes nothing.
use mathlib.Core.Path.{◌≡◌, refl, sym, ◌∙◌}
use mathlib.Core.Bool.{Bool, true, false}
use borrow.Author.Rules.{rules}
use borrow.Author.Tests.{eq-eqb}
use lib.IntN.{ℤ, pos, negsuc}
use lib.Signed.{lt_z, le_z}
use mir.Syntax.{w32}
use mir.Val.{of_z}
use Rattle.laws.proofs.Tests.{and-false-left, and-true-left}
use Rattle.laws.proofs.Signed.{lt_not_le, not-lt-le}
use Rattle.text.specs.Quantities.{height_in, no_data_height}
use Rattle.text.specs.Ranges.{height_accepted}
use Rattle.text.proofs.Accepted.{bits_none, none-bits}
use Rattle.text.proofs.InnerTested.{height-none, height-low, height-high}
use Rattle.text.proofs.ranges.is_height.Goals as goal

-- a height that is not NoData is below the range, or judged by its upper bound
by_bound : (z : ℤ) → (z ≡ no_data_height → ⊥) → (b : Bool) → lt_z z (negsuc 49999) ≡ b → height_in z ≡ height_accepted z
by_bound z d true e = sym (and-false-left (le_z (negsuc 49999) z) (le_z z (pos 900000)) (lt_not_le z (negsuc 49999) e)) ∙ height-low z d e
by_bound z d false e = sym (and-true-left (le_z (negsuc 49999) z) (le_z z (pos 900000)) (not-lt-le z (negsuc 49999) e)) ∙ height-high z d e

pub returns-then-h : goal.returns-then-h
returns-then-h c = eq-eqb (of_z w32 c.args.h) 4293967396 c.if-h.true ∙ height-none c.args.h (bits_none c.args.h c.ranges.h c.if-h.true)

pub returns-else-h : goal.returns-else-h
returns-else-h c =
    let e : c.contains.result ≡ height_in c.args.h = search rules in
    e ∙ by_bound c.args.h (none-bits c.args.h c.if-h.false) _ refl
