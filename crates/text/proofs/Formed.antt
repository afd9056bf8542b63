-- A word that is formed as a number or as a count is right, has a byte, and has no blank. Assumes nothing.
use mathlib.Core.Path.{◌≡◌, sym, ap, subst}
use mathlib.Core.Bool.{Bool, true, false, true≢false}
use mathlib.Core.List.{List, [], ◌∷◌}
use Prim.Native.Nat.{ℕ, ◌+◌, ◌≤◌, ◌<◌}
use native.Mathlib.Nat.{le_refl}
use native.Mathlib.Decide.{dec_lt, ℕ_discrete}
use native.Mathlib.Omega.{arith}
use lib.ListN.{length, get_or, get_or-eq_default}
use lib.Seq.{take-length}
use Rattle.text.specs.Words.{solid, run}
use Rattle.text.specs.Numbers.{digit, formed, Number, number_at, count_form_at, is_formed}
use Rattle.text.specs.Right.{Digits, Sign, plain, minus, Decimals, none, point, RightNumber, RightCount}
use Rattle.text.proofs.Bytes.{digit-solid}
use Rattle.text.proofs.Every.{every, each-every}
use Rattle.text.proofs.InnerSaid.{Says, number-says, count-says}

-- a text that is all of its one word has no byte at its end
end-byte : (w : List ℕ) → get_or w (length w) 0 ≡ 0
end-byte w = get_or-eq_default w 0 {n = length w} (le_refl (length w))

module _ (w : List ℕ) where
  digits-solid : (i j : ℕ) → Digits w i j → (k : ℕ) → i ≤ k → k < j → solid (get_or w k 0) ≡ true
  digits-solid i j d k l u = digit-solid (get_or w k 0) (d.each k l u)

  sign-solid : (b : ℕ) → Sign w b → (k : ℕ) → k < b → solid (get_or w k 0) ≡ true
  sign-solid b plain k l = absurd (omega arith)
  sign-solid b (minus e) k l = let z : k ≡ 0 = omega arith in rw (z, e)

  decimals-solid : (d : ℕ) → Decimals w d → (k : ℕ) → d ≤ k → k < length w → solid (get_or w k 0) ≡ true
  decimals-solid d (none e) k l u = absurd (omega arith)
  decimals-solid d (point e g f) k l u =
      elim (ℕ_discrete k d) [ yes z ↦ rw (z, e) | no z ↦ digits-solid (d + 1) (length w) g k (omega arith) u ]

  right-number-solid : RightNumber w → every solid w ≡ true
  right-number-solid r =
      each-every solid w
      (λ k l. elim (dec_lt k r.b) [
        | yes u ↦ sign-solid r.b r.sign k u
        | no u ↦ elim (dec_lt k r.d) [
          | yes v ↦ digits-solid r.b r.d r.whole k (omega arith) v
          | no v ↦ decimals-solid r.d r.decimals k (omega arith) l
        ]
      ])

  right-count-solid : RightCount w → every solid w ≡ true
  right-count-solid r = each-every solid w (λ k l. digits-solid 0 (length w) r.digits k (omega arith) l)

pub number-some : (w : List ℕ) {x : Number} → number_at w 0 (length w) ≡ formed x → 0 < length w
unfolding number_at run
number-some [] e = let z : ◌≡◌ {A = Bool} false true = ap is_formed e in absurd (true≢false (sym z))
number-some (b ∷ u) e = omega arith

pub count-some : (w : List ℕ) {n : ℕ} → count_form_at w 0 (length w) ≡ formed n → 0 < length w
unfolding count_form_at run
count-some [] e = let z : ◌≡◌ {A = Bool} false true = ap is_formed e in absurd (true≢false (sym z))
count-some (b ∷ u) e = omega arith

formed-number : (w : List ℕ) {x : Number} → number_at w 0 (length w) ≡ formed x → RightNumber w
formed-number w e =
    subst RightNumber (take-length w)
    (subst (Says RightNumber _ 0) e
    (number-says w 0 (length w) (number-some w e) (le_refl (length w)) (ap digit (end-byte w)) (λ z. omega (arith, end-byte w))))

formed-count : (w : List ℕ) {n : ℕ} → count_form_at w 0 (length w) ≡ formed n → RightCount w
formed-count w e =
    subst RightCount (take-length w)
    (subst (Says RightCount _ 0) e (count-says w 0 (length w) (count-some w e) (le_refl (length w)) (ap digit (end-byte w))))

pub number-solid : (w : List ℕ) {x : Number} → number_at w 0 (length w) ≡ formed x → every solid w ≡ true
number-solid w e = right-number-solid w (formed-number w e)

pub count-solid : (w : List ℕ) {n : ℕ} → count_form_at w 0 (length w) ≡ formed n → every solid w ≡ true
count-solid w e = right-count-solid w (formed-count w e)
