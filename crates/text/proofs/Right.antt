-- RULES 2.3: which words are right, and where refusals 7 and 12 stand in a word that is not. Assumes nothing.
use mathlib.Core.Path.{◌≡◌, refl, sym, ap, subst, ◌∙◌}
use mathlib.Core.Bool.{Bool, true, false, true≢false}
use mathlib.Core.List.{List}
use Prim.Native.Nat.{ℕ, ◌-◌, ◌≤◌, ◌<◌}
use native.Mathlib.Nat.{le_refl}
use native.Mathlib.Decide.{dec_lt}
use native.Mathlib.Omega.{arith}
use borrow.Author.Tests.{ltb-true}
use lib.Dec.{ltb}
use lib.ListN.{length, get_or, set, get_or-eq_default}
use lib.Seq.{take-length}
use Rattle.laws.proofs.Tests.{and_both}
use Rattle.text.specs.Quantities.{extent_in}
use Rattle.text.specs.Reader.{Step, got, refused, after, check, give, ◌>>◌}
use Rattle.text.specs.Words.{solid, word_start, word_end}
use Rattle.text.specs.Numbers.{Form, formed, malformed, Number, number_at, count_form_at, is_formed, first_comma, comma_decimal}
use Rattle.text.specs.Numbers.{digit, is_number, Placed, formed_or, read, count, number}
use Rattle.text.specs.Right.{Digits, RightNumber, RightCount, BreaksAt, CommaAt, word_at, Neither}
use Rattle.text.proofs.Ends.{byte-within, first-solid, word-found, word_none, end-lower}
use Rattle.text.proofs.InnerCommas.{count-no-comma}
use Rattle.text.proofs.InnerRight.{broken}
use Rattle.text.proofs.InnerAlone.{alone-empty}
use Rattle.text.proofs.InnerSaid.{Says, says-right, number-says, count-says, comma-in, word_some, word_in, end-digit, end-point, Told, told}

-- ---- a word that begins at a

module _ (s : List ℕ) (a : ℕ) (h : a < length s) (first : solid (get_or s a 0) ≡ true) where
  number-form : Says RightNumber (word_at s a) a (number_at s a (word_end s a))
  number-form = number-says s a (word_end s a) (word_some s a h first) (word_in s a h first) (end-digit s a h first) (end-point s a h first)

  count-form : Says RightCount (word_at s a) a (count_form_at s a (word_end s a))
  count-form = count-says s a (word_end s a) (word_some s a h first) (word_in s a h first) (end-digit s a h first)

  -- a word that is formed as a number is a right number
  pub number-formed : (x : Number) → number_at s a (word_end s a) ≡ formed x → RightNumber (word_at s a)
  number-formed x e = subst (Says RightNumber (word_at s a) a) e number-form

  -- one that is malformed breaks at the place that the form tells
  pub number-breaks : (p : ℕ) → number_at s a (word_end s a) ≡ malformed p → (a ≤ p) × BreaksAt RightNumber (word_at s a) (p - a)
  number-breaks p e = subst (Says RightNumber (word_at s a) a) e number-form

  -- a word that is formed as a count is a right count
  pub count-formed : (n : ℕ) → count_form_at s a (word_end s a) ≡ formed n → RightCount (word_at s a)
  count-formed n e = subst (Says RightCount (word_at s a) a) e count-form

  -- one that is malformed breaks at the place that the form tells
  pub count-breaks : (p : ℕ) → count_form_at s a (word_end s a) ≡ malformed p → (a ≤ p) × BreaksAt RightCount (word_at s a) (p - a)
  count-breaks p e = subst (Says RightCount (word_at s a) a) e count-form

  -- a comma decimal is a right number with a point for its first comma
  pub comma-at : comma_decimal number_at s a (word_end s a) ≡ true
      → (a ≤ first_comma s a (word_end s a)) × CommaAt RightNumber (word_at s a) (first_comma s a (word_end s a) - a)
  unfolding comma_decimal
  comma-at q =
      let e = word_end s a in
      let c = first_comma s a e in
      let t = and_both (ltb c e) (is_formed (number_at (set s c 46) a e)) q in
      comma-in s a e (word_some s a h first) (word_in s a h first) (end-digit s a h first) (end-point s a h first) (ltb-true c e t.0) t.1

-- ---- bytes by themselves: those of a number's word are a right number, and those of a right number a number's word

-- what their form says
alone-form : (w : List ℕ) → 0 < length w → Says RightNumber w 0 (number_at w 0 (length w))
alone-form w h =
    let past : get_or w (length w) 0 ≡ 0 = get_or-eq_default w 0 {n = length w} (le_refl (length w)) in
    subst (λ (u : List ℕ). Says RightNumber u 0 (number_at w 0 (length w))) (take-length w)
    (number-says w 0 (length w) h (le_refl (length w)) (ap digit past) (λ z. omega arith))

digits-inside : (w : List ℕ) (i j : ℕ) → Digits w i j → 0 < length w
digits-inside w i j d = omega (arith, byte-within w i (λ z. true≢false (sym (d.each i (le_refl i) d.some) ∙ ap digit z)))

pub is_right : (w : List ℕ) → is_number w ≡ true → RightNumber w
unfolding is_number
is_right w e =
    elim (dec_lt 0 (length w)) [
      | yes h ↦ says-right RightNumber w 0 (number_at w 0 (length w)) e (alone-form w h)
      | no h ↦ absurd (true≢false (sym e ∙ sym (alone-empty w (omega arith))))
    ]

pub right_is : (w : List ℕ) → RightNumber w → is_number w ≡ true
unfolding is_number
right_is w r = go (number_at w 0 (length w)) (alone-form w (digits-inside w r.b r.d r.whole))
  where
    go : (x : Form Number) → Says RightNumber w 0 x → is_formed x ≡ true
    go (formed x) h = refl
    go (malformed p) h = absurd (broken RightNumber w (p - 0) h.1 r)

-- ---- the next word from the place i, as a number and as a count

-- a number that was read is the next word, and reading goes on behind it
abbrev pub NextWord : List ℕ → ℕ → Step (Placed Number) → Type 0
NextWord s i (got x e) = (word_start s i < length s) × (x.place ≡ word_start s i) × (e ≡ word_end s (word_start s i))
NextWord s i (refused n p) = Unit

module _ (s : List ℕ) (i : ℕ) where
  number-told : Told number_at RightNumber s (word_start s i) (number s i)
  unfolding number
  number-told = told number_at RightNumber s (λ a x. give (record { place = a; is = x })) (λ a e x. tt) i (number-form s)

  pub number-next : NextWord s i (number s i)
  unfolding number read
  number-next =
      let a = word_start s i in
      elim (dec_lt a (length s)) [
        | yes h ↦ rw (word-found s i a refl h) (go h (number_at s a (word_end s a)) (comma_decimal number_at s a (word_end s a)))
        | no h ↦ rw (word_none s i a refl (omega arith)) tt
      ]
    where
      go : word_start s i < length s → (r : Form Number) (q : Bool)
          → NextWord s i (after (formed_or q (first_comma s (word_start s i) (word_end s (word_start s i))) r s (word_end s (word_start s i)))
          (λ x. give (record { place = word_start s i; is = x })) s)
      go h (formed x) q = (h, refl, refl)
      go h (malformed p) true = tt
      go h (malformed p) false = tt

  -- refusal 7 of a number stands where the word breaks
  pub number-7 : (p : ℕ) → number s i ≡ refused 7 p → (word_start s i ≤ p) × BreaksAt RightNumber (word_at s (word_start s i)) (p - word_start s i)
  number-7 = number-told.seven

  -- refusal 12 of a number stands at the word's first comma, and with a point there the word is right
  pub number-12 : (p : ℕ) → number s i ≡ refused 12 p → (word_start s i ≤ p) × CommaAt RightNumber (word_at s (word_start s i)) (p - word_start s i)
  number-12 p q =
      let a = word_start s i in
      let t = number-told.twelve p q in
      subst (λ (c : ℕ). (a ≤ c) × CommaAt RightNumber (word_at s a) (c - a)) t.2 (comma-at s a t.0 (first-solid s i a refl t.0) t.1)

  -- a word that gets neither as a number is a right number
  pub number-neither : word_start s i < length s → Neither (number s i) → RightNumber (word_at s (word_start s i))
  number-neither = number-told.neither

  -- and a right number gets neither
  pub number-right : word_start s i < length s → RightNumber (word_at s (word_start s i)) → Neither (number s i)
  number-right = number-told.right

  count-told : Told count_form_at RightCount s (word_start s i) (count s i)
  unfolding count
  count-told = told count_form_at RightCount s (λ a n. check (extent_in n) 1 a >> give n) (λ a e n. go a e n (extent_in n)) i (count-form s)
    where
      go : (a e n : ℕ) (ok : Bool) → Neither ((check ok 1 a >> give n) s e)
      go a e n true = tt
      go a e n false = (λ z. omega arith, λ z. omega arith)

  -- refusal 7 of a count stands where the word breaks
  pub count-7 : (p : ℕ) → count s i ≡ refused 7 p → (word_start s i ≤ p) × BreaksAt RightCount (word_at s (word_start s i)) (p - word_start s i)
  count-7 = count-told.seven

  -- no count gets 12
  pub count-12 : (p : ℕ) → count s i ≡ refused 12 p → ⊥
  count-12 p q =
      let a = word_start s i in
      true≢false (sym (count-told.twelve p q).1 ∙ count-no-comma s a (word_end s a) (end-lower s a))

  -- a word that gets neither as a count is a right count
  pub count-neither : word_start s i < length s → Neither (count s i) → RightCount (word_at s (word_start s i))
  count-neither = count-told.neither

  -- and a right count gets neither, though it may get refusal 1
  pub count-right : word_start s i < length s → RightCount (word_at s (word_start s i)) → Neither (count s i)
  count-right = count-told.right
