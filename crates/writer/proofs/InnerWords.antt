-- Laws of the words of cells: which one a cell gets, how long it is, and how it is put down in parts. Assumes nothing.
use mathlib.Core.Path.{◌≡◌, refl, sym, ap, ◌∙◌, subst}
use mathlib.Core.Bool.{Bool, true, false, cond, true≢false}
use mathlib.Core.List.{List, [], ◌∷◌}
use Prim.Native.Nat.{ℕ, ◌+◌, ◌/◌, ◌^◌, ◌≤◌, ◌<◌}
use native.Mathlib.Omega.{arith}
use native.Mathlib.Decide.{ℕ_discrete}
use borrow.Author.Tests.{ltb-true, eq-eqb, ne_eqb}
use lib.ListN.{length}
use lib.IntN.{ℤ, pos, negsuc, nat_abs}
use lib.Signed.{lt_z}
use mir.Syntax.{w32}
use mir.Val.{SFits, to_z, of_z}
use mir.Facts.{to_z-of_z}
use Rattle.text.specs.Quantities.{no_data_height}
use Rattle.text.proofs.Accepted.{same_not, bits_none, none-bits}
use Rattle.factor.specs.Cell.{too_long}
use Rattle.factor.specs.Grid.{no_data_factor}
use Rattle.numerals.specs.Words.{decimal, padded, fixed}
use Rattle.numerals.specs.Writing.{overlay, Wrote}
use Rattle.numerals.proofs.Writing.{wrote-laid, wrote-byte, wrote_then}
use Rattle.writer.specs.Words.{none, metres, height_word, count_word, factor_word, direction_word}

-- ---- a number with decimals, in three parts: the digits before the point, the point, the decimals

module _ (k n at : ℕ) {room a b c : List ℕ} {i j : ℕ} where
  pub wrote-fixed : a ≡ overlay room at (decimal (n / 10 ^ k)) → i ≡ length (decimal (n / 10 ^ k)) → b ≡ overlay a (at + i) (46 ∷ [])
      → c ≡ overlay b (at + i + 1) (padded k n) → j ≡ length (padded k n) → Wrote room at (fixed k n) (at + i + 1 + j) c
  unfolding fixed
  wrote-fixed ea ei eb ec ej =
      wrote_then {a = decimal (n / 10 ^ k)} {b = 46 ∷ padded k n} (wrote-laid at i ea ei)
      (wrote_then {a = 46 ∷ []} {b = padded k n} (wrote-byte (at + i) 46 eb) (wrote-laid (at + i + 1) j ec ej))

-- ---- heights

pub none-length : length none ≡ 5
unfolding none
none-length = refl

some : (z : ℤ) → (z ≡ no_data_height → ⊥) → height_word z ≡ metres z
unfolding height_word
some z d = ap (λ (b : Bool). cond b none (metres z)) (same_not z d)

below : (z : ℤ) → lt_z z (pos 0) ≡ true → metres z ≡ 45 ∷ fixed 2 (nat_abs z)
unfolding metres
below (pos n) h = absurd (omega (arith, ltb-true n 0 h))
below (negsuc n) h = refl

above : (z : ℤ) → lt_z z (pos 0) ≡ false → metres z ≡ fixed 2 (nat_abs z)
unfolding metres
above (pos n) h = refl
above (negsuc n) h = absurd (true≢false h)

-- a height of 32 bits as it is read from a slice
pub height-read : (z : ℤ) → SFits w32 z → height_word (to_z w32 (of_z w32 z)) ≡ height_word z
height-read z f = ap height_word (to_z-of_z f)

-- what the code finds of a height of 32 bits: it is NoData,
module _ (z : ℤ) (f : SFits w32 z) where
  pub height-none : of_z w32 z ≡ 4293967396 → height_word z ≡ none
  unfolding height_word
  height-none e = ap height_word (bits_none z f e)

  -- or it is not, and is n cm without its sign
  module _ (d : of_z w32 z ≡ 4293967396 → ⊥) {n : ℕ} (e : n ≡ nat_abs (to_z w32 (of_z w32 z))) where
    pub height-below : lt_z (to_z w32 (of_z w32 z)) (pos 0) ≡ true → height_word z ≡ 45 ∷ fixed 2 n
    height-below h =
        some z (none-bits z d) ∙ below z (subst (λ (y : ℤ). lt_z y (pos 0) ≡ true) (to_z-of_z f) h)
        ∙ ap (λ (k : ℕ). 45 ∷ fixed 2 k) (sym (e ∙ ap nat_abs (to_z-of_z f)))

    pub height-above : lt_z (to_z w32 (of_z w32 z)) (pos 0) ≡ false → height_word z ≡ fixed 2 n
    height-above h =
        some z (none-bits z d) ∙ above z (subst (λ (y : ℤ). lt_z y (pos 0) ≡ false) (to_z-of_z f) h) ∙ ap (fixed 2) (sym (e ∙ ap nat_abs (to_z-of_z f)))

-- ---- directions

module _ (code : ℕ) where
  pub direction-none : code ≡ 255 → direction_word code ≡ none
  unfolding direction_word
  direction-none e = ap direction_word e

  pub direction-some : (code ≡ 255 → ⊥) → direction_word code ≡ decimal code
  unfolding direction_word
  direction-some d = ap (λ (b : Bool). cond b none (decimal code)) (ne_eqb code 255 d)

-- ---- counts and LS

module _ (n : ℕ) where
  pub count_none : n ≡ 0 → count_word n ≡ none
  unfolding count_word
  count_none e = ap count_word e

  pub count-some : (n ≡ 0 → ⊥) → count_word n ≡ decimal n
  unfolding count_word
  count-some d = ap (λ (b : Bool). cond b none (decimal n)) (ne_eqb n 0 d)

  -- too long and NoData are the two greatest numbers of 32 bits
  pub factor-none : too_long ≤ n → n < 4294967296 → factor_word n ≡ none
  unfolding factor_word
  factor-none l h =
      elim (ℕ_discrete n no_data_factor) [
        | yes e ↦ rw (eq-eqb n no_data_factor e) refl
        | no d ↦ rw (ne_eqb n no_data_factor d, eq-eqb n too_long (omega arith)) refl
      ]

  pub factor-some : n < too_long → factor_word n ≡ fixed 5 n
  unfolding factor_word
  factor-some h = rw (ne_eqb n no_data_factor (λ e. omega arith), ne_eqb n too_long (λ e. omega arith)) refl
