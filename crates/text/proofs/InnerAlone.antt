-- Whether bytes by themselves are a number's word, one law for each way out of the code. Assumes nothing.
use mathlib.Core.Path.{◌≡◌, refl, sym, ap, ◌∙◌}
use mathlib.Core.Bool.{Bool, true, false, cond}
use mathlib.Core.List.{List, [], ◌∷◌}
use Prim.Native.Nat.{ℕ, ◌+◌, ◌*◌, ◌-◌}
use native.Mathlib.Omega.{arith}
use borrow.Author.Tests.{eq-eqb, ne_eqb}
use lib.Dec.{eqb, ltb}
use lib.ListN.{length, get_or}
use Rattle.text.specs.Words.{run}
use Rattle.text.specs.Numbers.{Number, formed, malformed, digit, value, after_sign, whole_and_decimals, number_at, is_formed, is_number}
use Rattle.text.proofs.InnerForms.{number-at}
use Rattle.text.proofs.InnerCommas.{decimals-formed}

-- no bytes
pub alone-empty : (w : List ℕ) → length w ≡ 0 → false ≡ is_number w
unfolding is_number number_at run
alone-empty [] h = refl
alone-empty (x ∷ xs) h = absurd (omega arith)

-- the sign ends at b and the digits at d
module _ (w : List ℕ) (b d : ℕ) (sign : b ≡ after_sign w 0) (ends : d ≡ run digit w b 9) where
  at : is_number w ≡ is_formed (whole_and_decimals w (length w) (ltb 0 b) b d)
  unfolding is_number
  at = ap is_formed (number-at w 0 (length w) b d sign ends)

  pub alone-none : d ≡ b → false ≡ is_number w
  alone-none q = sym (at ∙ rw (eq-eqb d b q))

  module _ (some : d ≡ b → ⊥) where
    pub alone-whole : (get_or w d 0 ≡ 46 → ⊥) → eqb d (length w) ≡ is_number w
    alone-whole z = sym (at ∙ rw (ne_eqb d b some, ne_eqb (get_or w d 0) 46 z) (go (eqb d (length w))))
      where
        go : (q : Bool) → is_formed {A = Number} (cond q (formed (record { minus = ltb 0 b; size = value w d b (d - b) * 100; fine = false })) (malformed d)) ≡ q
        go true = refl
        go false = refl

    -- a point there, and digits up to f behind it
    module _ (z : get_or w d 0 ≡ 46) (f : ℕ) (tail : f ≡ run digit w (d + 1) 6) where
      is : is_number w ≡ cond (eqb f (d + 1)) false (eqb f (length w))
      is = at ∙ rw (ne_eqb d b some, eq-eqb (get_or w d 0) 46 z) (decimals-formed w (length w) (d + 1) (ltb 0 b) _ f tail)

      pub alone-short : f ≡ d + 1 → false ≡ is_number w
      alone-short q = sym (is ∙ rw (eq-eqb f (d + 1) q))

      pub alone-point : (f ≡ d + 1 → ⊥) → eqb f (length w) ≡ is_number w
      alone-point n = sym (is ∙ rw (ne_eqb f (d + 1) n))
