-- A word depends on its bytes alone: in a text it has the runs, the value, the form and the name that it has as a text of its own. Assumes nothing.
use mathlib.Core.Path.{◌≡◌, refl, sym, ap, ap₂, ◌∙◌, subst}
use mathlib.Core.Bool.{Bool, true, false, not, cond, ◌&&◌, true≢false}
use mathlib.Core.List.{List, [], ◌∷◌}
use Prim.Native.Nat.{ℕ, zero as zeroᴺ, suc, ◌+◌, ◌-◌, ◌*◌, ◌≤◌, ◌<◌}
use native.Mathlib.Nat.{le_refl, add-zero, add-suc, add_assoc}
use native.Mathlib.Decide.{dec_lt, ℕ_discrete}
use native.Mathlib.Omega.{arith}
use borrow.Author.Tests.{lt-ltb, le-ltb, eq-eqb, ne_eqb, eqb-true, ltb-true}
use lib.Dec.{ltb, eqb}
use lib.ListN.{length, get_or, get_or-eq_default}
use Rattle.text.specs.Words.{blank, solid, run}
use Rattle.text.specs.Numbers.{digit, zero, digit_of, digit_at, value, Form, formed, malformed, count_form_at}
use Rattle.text.specs.Numbers.{Number, after_sign, decimals, whole_and_decimals, number_at}
use Rattle.text.specs.Headers.{lower, named}
use Rattle.text.proofs.Bytes.{digit-solid, zero-digit}
use Rattle.text.proofs.Ends.{byte-within}
use Rattle.text.proofs.InnerRuns.{run-lower, run-within}

-- a word that goes on up to e ends there: at a blank, or with the text
pub data Stops (s : List ℕ) (e : ℕ) : Type 0 where
  blank-there : blank (get_or s e 0) ≡ true → Stops s e
  text-ends : length s ≤ e → Stops s e

-- the bytes w stand in the text s from a on, and the word ends with them
pub record Stands (s : List ℕ) (a : ℕ) (w : List ℕ) : Type 0 where
  pub each : (k : ℕ) → k < length w → get_or s (a + k) 0 ≡ get_or w k 0
  pub stops : Stops s (a + length w)

-- a test that only bytes of words pass
pub record OfWords (p : ℕ → Bool) : Type 0 where
  pub none : p 0 ≡ false
  pub only : (b : ℕ) → p b ≡ true → solid b ≡ true

pub digit-of-words : OfWords digit
digit-of-words = record { none = refl; only = digit-solid }

pub zero-of-words : OfWords zero
zero-of-words = record { none = refl; only = λ b h. digit-solid b (zero-digit b h) }

minus-of-words : OfWords (λ b. eqb b 45)
minus-of-words = record { none = refl; only = λ b h. rw (eqb-true b 45 h) }

point-of-words : OfWords (λ b. eqb b 46)
point-of-words = record { none = refl; only = λ b h. rw (eqb-true b 46 h) }

-- ---- places that are shifted alike compare alike

eqb-shifted : (a i j : ℕ) → eqb (a + i) (a + j) ≡ eqb i j
eqb-shifted a i j =
    elim (ℕ_discrete i j) [
      | yes e ↦ eq-eqb (a + i) (a + j) (omega arith) ∙ sym (eq-eqb i j e)
      | no f ↦ ne_eqb (a + i) (a + j) (λ e. f (omega arith)) ∙ sym (ne_eqb i j f)
    ]

ltb-shifted : (a i j : ℕ) → ltb (a + i) (a + j) ≡ ltb i j
ltb-shifted a i j =
    elim (dec_lt i j) [
      | yes l ↦ lt-ltb (a + i) (a + j) (omega arith) ∙ sym (lt-ltb i j l)
      | no f ↦ le-ltb (a + i) (a + j) (omega arith) ∙ sym (le-ltb i j (omega arith))
    ]

-- ---- a form of a word that begins a places later

abbrev pub shifted : {A : Type 0} → ℕ → Form A → Form A
shifted a (formed x) = formed x
shifted a (malformed p) = malformed (a + p)

-- a form ends where digits end, at d: with the word, whose end is e, or before it
module _ {A : Type 0} (a d e : ℕ) (x : A) where
  last-shifted : cond (eqb (a + d) (a + e)) (formed x) (malformed (a + d)) ≡ shifted a (cond (eqb d e) (formed x) (malformed d))
  last-shifted = rw (eqb-shifted a d e) (go (eqb d e))
    where
      go : (t : Bool) → cond t (formed x) (malformed (a + d)) ≡ shifted a (cond t (formed x) (malformed d))
      go true = refl
      go false = refl

  -- and there must be digits, from i on
  some-shifted : (i : ℕ) → cond (eqb (a + d) (a + i)) (malformed (a + d)) (cond (eqb (a + d) (a + e)) (formed x) (malformed (a + d)))
      ≡ shifted a (cond (eqb d i) (malformed d) (cond (eqb d e) (formed x) (malformed d)))
  some-shifted i = rw (eqb-shifted a d i) (go (eqb d i))
    where
      go : (t : Bool) → cond t (malformed (a + d)) (cond (eqb (a + d) (a + e)) (formed x) (malformed (a + d)))
          ≡ shifted a (cond t (malformed d) (cond (eqb d e) (formed x) (malformed d)))
      go true = refl
      go false = last-shifted

module _ {p : ℕ → Bool} (o : OfWords p) where
  stops-test : {s : List ℕ} {e : ℕ} → Stops s e → p (get_or s e 0) ≡ false
  stops-test {s} {e} (blank-there h) = go (p (get_or s e 0)) refl
    where
      go : (t : Bool) → p (get_or s e 0) ≡ t → t ≡ false
      go true q = absurd (true≢false (sym (o.only (get_or s e 0) q) ∙ ap not h))
      go false q = refl
  stops-test {s} {e} (text-ends h) = ap p (get_or-eq_default s 0 {n = e} h) ∙ o.none

  -- no byte passes past the word's end
  test-within : (w : List ℕ) (i : ℕ) → p (get_or w i 0) ≡ true → i < length w
  test-within w i h = byte-within w i (λ e. true≢false (sym h ∙ ap p e ∙ o.none))

module _ {s : List ℕ} {a : ℕ} {w : List ℕ} (h : Stands s a w) where
  module _ {p : ℕ → Bool} (o : OfWords p) where
    test-shifted : (i : ℕ) → i ≤ length w → p (get_or s (a + i) 0) ≡ p (get_or w i 0)
    test-shifted i l =
        elim (dec_lt i (length w)) [
          | yes k ↦ ap p (h.each i k)
          | no f ↦
              let e : i ≡ length w = omega arith in
              subst (λ (j : ℕ). p (get_or s (a + j) 0) ≡ p (get_or w j 0)) (sym e)
              (stops-test o h.stops ∙ sym (stops-test o {s = w} (text-ends (le_refl (length w)))))
        ]

    pub run-shifted : (n i : ℕ) → i ≤ length w → run p s (a + i) n ≡ a + run p w i n
    unfolding run
    run-shifted zeroᴺ i l = refl
    run-shifted (suc n) i l = go (p (get_or w i 0)) refl (run-shifted n (suc i))
      where
        go : (b : Bool) → p (get_or w i 0) ≡ b → (suc i ≤ length w → run p s (a + suc i) n ≡ a + run p w (suc i) n)
            → run p s (a + i) (suc n) ≡ a + run p w i (suc n)
        go true e r = rw (test-shifted i l, e, run, ← add-suc a i) (r (test-within o w i e))
        go false e r = rw (test-shifted i l, e, run) refl

  -- ---- the value of digits

  digit-shifted : (e i : ℕ) → e ≤ length w → digit_at s (a + e) (a + i) ≡ digit_at w e i
  digit-shifted e i l = rw (ltb-shifted a i e) (go (ltb i e) refl)
    where
      go : (b : Bool) → ltb i e ≡ b → cond b (digit_of (get_or s (a + i) 0)) 0 ≡ cond b (digit_of (get_or w i 0)) 0
      go true q = ap digit_of (h.each i (omega (arith, ltb-true i e q)))
      go false q = refl

  pub value_shifted : (e i n : ℕ) → e ≤ length w → value s (a + e) (a + i) n ≡ value w e i n
  unfolding value
  value_shifted e i zeroᴺ l = refl
  value_shifted e i (suc n) l =
      ap₂ (λ (x y : ℕ). x * 10 + y) (value_shifted e i n l) (ap (digit_at s (a + e)) (add_assoc a i n) ∙ digit-shifted e (i + n) l)

  -- ---- counts

  -- the digits from i up to d
  digits-shifted : (i d : ℕ) → d ≤ length w → value s (a + d) (a + i) (a + d - (a + i)) ≡ value w d i (d - i)
  digits-shifted i d l = let e : a + d - (a + i) ≡ d - i = omega arith in ap (value s (a + d) (a + i)) e ∙ value_shifted d i (d - i) l

  pub count-shifted : (i e : ℕ) → i ≤ length w → count_form_at s (a + i) (a + e) ≡ shifted a (count_form_at w i e)
  unfolding count_form_at
  count-shifted i e l =
      let d = run digit w i 9 in
      rw (run-shifted digit-of-words 9 i l, digits-shifted i d (run-within digit w refl i 9 l)) (some-shifted a d e (value w d i (d - i)) i)

  -- ---- numbers

  -- zeros that are looked for past the word's end
  fine-shifted : (i f : ℕ) → f ≤ length w → ltb (run zero s (a + i) 4) (a + f) ≡ ltb (run zero w i 4) f
  fine-shifted i f l =
      elim (dec_lt (length w) i) [
        | yes k ↦ le-ltb (run zero s (a + i) 4) (a + f) (omega (arith, run-lower zero s (a + i) 4))
            ∙ sym (le-ltb (run zero w i 4) f (omega (arith, run-lower zero w i 4)))
        | no k ↦ ap (λ (j : ℕ). ltb j (a + f)) (run-shifted zero-of-words 4 i (omega arith)) ∙ ltb-shifted a (run zero w i 4) f
      ]

  module _ (e : ℕ) (minus : Bool) where
    decimals-shifted : (size p : ℕ) → p ≤ length w → decimals s (a + e) minus size (a + p) ≡ shifted a (decimals w e minus size p)
    unfolding decimals
    decimals-shifted size p l =
        let f = run digit w p 6 in
        let u = run-within digit w refl p 6 l in
        rw (run-shifted digit-of-words 6 p l, value_shifted f p 2 u, add_assoc a p 2, fine-shifted (p + 2) f u) (some-shifted a f e _ p)

    whole-shifted : (b d : ℕ) → d ≤ length w → whole_and_decimals s (a + e) minus (a + b) (a + d) ≡ shifted a (whole_and_decimals w e minus b d)
    whole-shifted b d l =
        rw (eqb-shifted a d b, test-shifted point-of-words d l, digits-shifted b d l, add_assoc a d 1) (go (eqb d b) (eqb (get_or w d 0) 46) refl)
      where
        v : ℕ
        v = value w d b (d - b) * 100

        x : Number
        x = record { minus = minus; size = v; fine = false }

        go : (p q : Bool) → eqb (get_or w d 0) 46 ≡ q
            → cond p (malformed (a + d)) (cond q (decimals s (a + e) minus v (a + (d + 1))) (cond (eqb (a + d) (a + e)) (formed x) (malformed (a + d))))
            ≡ shifted a (cond p (malformed d) (cond q (decimals w e minus v (d + 1)) (cond (eqb d e) (formed x) (malformed d))))
        go true q z = refl
        go false true z = decimals-shifted v (d + 1) (omega (arith, test-within point-of-words w d z))
        go false false z = last-shifted a d e x

  sign-shifted : (i : ℕ) → i ≤ length w → after_sign s (a + i) ≡ a + after_sign w i
  sign-shifted i l = rw (test-shifted minus-of-words i l) (go (eqb (get_or w i 0) 45))
    where
      go : (t : Bool) → cond t (a + i + 1) (a + i) ≡ a + cond t (i + 1) i
      go true = add_assoc a i 1
      go false = refl

  sign-in : (i : ℕ) → i ≤ length w → after_sign w i ≤ length w
  sign-in i l = go (eqb (get_or w i 0) 45) refl
    where
      go : (t : Bool) → eqb (get_or w i 0) 45 ≡ t → cond t (i + 1) i ≤ length w
      go true z = omega (arith, test-within minus-of-words w i z)
      go false z = l

  pub number-shifted : (i e : ℕ) → i ≤ length w → number_at s (a + i) (a + e) ≡ shifted a (number_at w i e)
  unfolding number_at
  number-shifted i e l =
      let b = after_sign w i in
      let u = sign-in i l in
      rw (sign-shifted i l, ltb-shifted a i b, run-shifted digit-of-words 9 b u)
      (whole-shifted e (ltb i b) b (run digit w b 9) (run-within digit w refl b 9 u))

  -- ---- names

  pub named-shifted : (n : List ℕ) (i e : ℕ) → e ≤ length w → named s (a + i) (a + e) n ≡ named w i e n
  unfolding named
  named-shifted [] i e l = eqb-shifted a i e
  named-shifted (x ∷ n) i e l = rw (ltb-shifted a i e, ← add-suc a i, named-shifted n (suc i) e l) (go (ltb i e) refl)
    where
      go : (t : Bool) → ltb i e ≡ t
          → (t && eqb (lower (get_or s (a + i) 0)) x && named w (suc i) e n) ≡ (t && eqb (lower (get_or w i 0)) x && named w (suc i) e n)
      go true q = ap (λ (b : ℕ). eqb (lower b) x && named w (suc i) e n) (h.each i (omega (arith, ltb-true i e q)))
      go false q = refl

  -- ---- the whole word

  pub number-stands : {x : Number} → number_at w 0 (length w) ≡ formed x → number_at s a (a + length w) ≡ formed x
  number-stands e = rw (add-zero a) at (number-shifted 0 (length w) (omega arith) ∙ ap (shifted a) e)

  pub count-stands : {n : ℕ} → count_form_at w 0 (length w) ≡ formed n → count_form_at s a (a + length w) ≡ formed n
  count-stands e = rw (add-zero a) at (count-shifted 0 (length w) (omega arith) ∙ ap (shifted a) e)

  pub named-stands : (n : List ℕ) → named w 0 (length w) n ≡ true → named s a (a + length w) n ≡ true
  named-stands n e = rw (add-zero a) at (named-shifted n 0 (length w) (le_refl (length w)) ∙ e)
