-- The words that are read as heights: each height from its own, and a direction as so many metres. Assumes nothing.
use mathlib.Core.Path.{◌≡◌, refl, sym, ap, ◌∙◌, subst}
use mathlib.Core.Bool.{Bool, true, false, cond, ◌||◌}
use mathlib.Core.List.{List}
use Prim.Native.Nat.{ℕ, ◌+◌, ◌*◌, ◌<◌}
use native.Mathlib.Decide.{ℕ_discrete}
use native.Mathlib.Omega.{arith}
use borrow.Author.Tests.{le-leb, eq-eqb, ne_eqb}
use lib.Dec.{eqb}
use lib.IntN.{ℤ, pos, nat_abs}
use lib.ListN.{length}
use Rattle.text.specs.Quantities.{height_in, no_data_height}
use Rattle.text.specs.Ranges.{height_accepted}
use Rattle.text.specs.Reader.{got}
use Rattle.text.specs.Numbers.{formed, number_at}
use Rattle.text.specs.Heights.{same, height}
use Rattle.text.proofs.Accepted.{same-equal}
use Rattle.text.proofs.Pieces.{Ahead, height-ahead, height-none-ahead}
use Rattle.numerals.specs.Words.{decimal}
use Rattle.writer.specs.Words.{none, metres, height_word, direction_word}
use Rattle.writer.proofs.Forms.{saying, saying-fine, saying-is, metres-form, decimal-form, none-form, height-small}

-- w is read as the height h wherever it stands with blanks before it and a blank after it
abbrev pub ReadAs : List ℕ → ℤ → Type 0
ReadAs w h =
    (s : List ℕ) (i : ℕ) (before rest : List ℕ) → Ahead s i before w rest → height no_data_height s i ≡ got h (i + length before + length w)

none-back : ReadAs none no_data_height
none-back s i before rest h = height-none-ahead h none-form refl no_data_height refl

-- a number that is another height than NoData
number-back : (w : List ℕ) (z : ℤ) → number_at w 0 (length w) ≡ formed (saying z) → same z no_data_height ≡ false → height_in z ≡ true → ReadAs w z
number-back w z form other within s i before rest h =
    let is = saying-is z in
    height-ahead h form (saying-fine z) no_data_height (ap (λ (x : ℤ). same x no_data_height) is ∙ other) (ap height_in is ∙ within)
    ∙ ap (λ (x : ℤ). got x (i + length before + length w)) is

-- A height that is accepted is read back from its word: NoData is no other height's word.
pub height-back : (z : ℤ) → height_accepted z ≡ true → ReadAs (height_word z) z
unfolding height_accepted height_word
height-back z = go (same z no_data_height) refl
  where
    go : (t : Bool) → same z no_data_height ≡ t → (t || height_in z) ≡ true → ReadAs (cond t none (metres z)) z
    go true e u = subst (ReadAs none) (sym (same-equal z no_data_height e)) none-back
    go false e u = number-back (metres z) z (metres-form z (omega (arith, height-small z u))) e u

-- what a direction's word is as a height: NoData, or as many whole metres as its code is
abbrev pub code_height : ℕ → ℤ
code_height code = cond (eqb code 255) no_data_height (pos (code * 100))

pub direction-back : (code : ℕ) → code < 256 → ReadAs (direction_word code) (code_height code)
unfolding direction_word
direction-back code h = go (eqb code 255)
  where
    go : (t : Bool) → ReadAs (cond t none (decimal code)) (cond t no_data_height (pos (code * 100)))
    go true = none-back
    go false = number-back (decimal code) (pos (code * 100)) (decimal-form code (omega arith)) refl (le-leb (code * 100) 900000 (omega arith))

-- the code is found again
pub code-height-one : (a b : ℕ) → a < 256 → b < 256 → code_height a ≡ code_height b → a ≡ b
code-height-one a b l h e =
    let n = ap nat_abs e in
    elim (ℕ_discrete a 255) [
      | yes p ↦
          elim (ℕ_discrete b 255) [
            | yes q ↦ p ∙ sym q
            | no q ↦ absurd (omega (arith, rw (eq-eqb a 255 p, ne_eqb b 255 q) at n))
          ]
      | no p ↦
          elim (ℕ_discrete b 255) [
            | yes q ↦ absurd (omega (arith, rw (ne_eqb a 255 p, eq-eqb b 255 q) at n))
            | no q ↦ omega (arith, rw (ne_eqb a 255 p, ne_eqb b 255 q) at n)
          ]
    ]
