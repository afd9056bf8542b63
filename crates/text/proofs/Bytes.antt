-- Which bytes are blanks, digits and zeros, and which are not. Assumes nothing.
use mathlib.Core.Path.{◌≡◌, sym, ap, ◌∙◌}
use mathlib.Core.Bool.{Bool, true, false, not, ◌||◌}
use Prim.Native.Nat.{ℕ, ◌≤◌, ◌<◌}
use native.Mathlib.Omega.{arith}
use borrow.Author.Tests.{ne_eqb, eqb-true, leb-true}
use lib.Dec.{leb, eqb}
use Rattle.laws.proofs.Tests.{and_both}
use Rattle.text.specs.Words.{blank, solid}
use Rattle.text.specs.Numbers.{digit, zero}

pub blank-last : (a b c d : Bool) → a ≡ false → b ≡ false → c ≡ false → d ≡ (a || b || c || d)
blank-last a b c d p q r = rw (p, q, r)

pub blank-above : (b : ℕ) → 32 < b → false ≡ blank b
blank-above b h =
    sym (ne_eqb b 10 (λ e. omega arith))
    ∙ blank-last (eqb b 32) (eqb b 9) (eqb b 13) (eqb b 10) (ne_eqb b 32 (λ e. omega arith)) (ne_eqb b 9 (λ e. omega arith)) (ne_eqb b 13 (λ e. omega arith))

solid-above : (b : ℕ) → 32 < b → solid b ≡ true
solid-above b h = ap not (sym (blank-above b h))

pub digit-range : (b : ℕ) → digit b ≡ true → (48 ≤ b) × (b ≤ 57)
digit-range b h = let e = and_both (leb 48 b) (leb b 57) h in (leb-true 48 b e.0, leb-true b 57 e.1)

pub digit-solid : (b : ℕ) → digit b ≡ true → solid b ≡ true
digit-solid b h = solid-above b (omega (arith, (digit-range b h).0))

pub zero-digit : (b : ℕ) → zero b ≡ true → digit b ≡ true
zero-digit b h = rw (eqb-true b 48 h)
