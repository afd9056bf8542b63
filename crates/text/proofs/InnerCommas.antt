-- Comma decimals: a comma that becomes a point changes no digit and no sign, so only the byte after the whole digits matters. Assumes nothing.
use mathlib.Core.Path.{◌≡◌, refl, sym, ap, ◌∙◌, subst}
use mathlib.Core.Bool.{Bool, true, false, not, cond, true≢false}
use mathlib.Core.List.{List}
use mathlib.Core.Logic.{⊎_elim}
use Prim.Native.Nat.{ℕ, ◌+◌, ◌-◌, ◌≤◌, ◌<◌}
use native.Mathlib.Decide.{dec_lt, ℕ_discrete}
use native.Mathlib.Omega.{arith}
use borrow.Author.Tests.{lt-ltb, ltb-true, eq-eqb, ne_eqb, eqb-true, not-false}
use lib.Dec.{eqb, ltb}
use lib.ListN.{length, get_or, set}
use lib.Seq.{get_or-set_same, get_or-set_other}
use Rattle.laws.proofs.Tests.{two, and-false-left, and-false-right, and-true-left}
use Rattle.text.specs.Words.{solid, run, word_end}
use Rattle.text.specs.Numbers.{Form, formed, malformed, digit, value, after_sign, decimals, whole_and_decimals, number_at, count_form_at, is_formed, comma, first_comma, comma_decimal}
use Rattle.text.proofs.Bytes.{digit-range}
use Rattle.text.proofs.InnerRuns.{run-stop, run-lower, run-fails, run-passes, run-after, run-same}
use Rattle.text.proofs.Ends.{byte-within, end-byte, end-digits, end-lower}
use Rattle.text.proofs.InnerForms.{number-at, sign-within, sign-end}

-- a comma stands within the text
pub comma-next : (s : List ℕ) (d : ℕ) → get_or s d 0 ≡ 44 → d + 1 ≤ length s
comma-next s d z = omega (arith, byte-within s d (λ n. omega arith))

-- ---- the first comma of the word from a up to e

module _ (s : List ℕ) (a e : ℕ) (h : a ≤ e) (inside : first_comma s a e < e) where
  abbrev c : ℕ
  c = first_comma s a e

  pub comma-from : a ≤ c
  unfolding first_comma
  comma-from = run-lower (λ b. not (comma b)) s a (e - a)

  pub comma-byte : get_or s c 0 ≡ 44
  unfolding first_comma
  comma-byte = eqb-true (get_or s c 0) 44 (not-false (comma (get_or s c 0)) (run-fails (λ b. not (comma b)) s a (e - a) (omega arith)))

  comma-within : c < length s
  comma-within = byte-within s c (λ z. omega (arith, comma-byte))

  -- the text with a point there
  abbrev t : List ℕ
  t = set s c 46

  point-byte : get_or t c 0 ≡ 46
  point-byte = get_or-set_same s c 46 0 comma-within

  other_byte : (k : ℕ) → (k ≡ c → ⊥) → get_or t k 0 ≡ get_or s k 0
  other_byte k d = get_or-set_other s c k 46 0 d

  -- a test that takes a comma as it takes a point
  tested : (q : ℕ → Bool) → q 46 ≡ q 44 → (k : ℕ) → q (get_or t k 0) ≡ q (get_or s k 0)
  tested q z k =
      elim (ℕ_discrete k c) [
        | yes d ↦ ap (λ (j : ℕ). q (get_or t j 0)) d ∙ ap q point-byte ∙ z ∙ sym (ap q comma-byte) ∙ ap (λ (j : ℕ). q (get_or s j 0)) (sym d)
        | no d ↦ ap q (other_byte k d)
      ]

  pub same_digits : (i n : ℕ) → run digit t i n ≡ run digit s i n
  same_digits i n = run-same digit s t (tested digit refl) i n

  pub same_sign : after_sign t a ≡ after_sign s a
  same_sign = ap (λ (b : Bool). cond b (a + 1) a) (tested (λ b. eqb b 45) refl a)

  -- a count has no point
  count_none : is_formed (count_form_at t a e) ≡ false
  unfolding count_form_at
  count_none = go (eqb (run digit t a 9) a) (eqb (run digit t a 9) e) refl
    where
      go : (x y : Bool) → eqb (run digit t a 9) e ≡ y
          → is_formed (cond x (malformed (run digit t a 9)) (cond y (formed (value t (run digit t a 9) a (run digit t a 9 - a))) (malformed (run digit t a 9)))) ≡ false
      go true y z = refl
      go false false z = refl
      go false true z = absurd (true≢false (sym (run-passes digit t a 9 c comma-from (omega (arith, eqb-true (run digit t a 9) e z))) ∙ ap digit point-byte))

pub count-no-comma : (s : List ℕ) (a e : ℕ) → a ≤ e → comma_decimal count_form_at s a e ≡ false
unfolding comma_decimal
count-no-comma s a e h =
    ⊎_elim (λ l. sym (and-false-right (ltb (first_comma s a e) e) _ (count_none s a e h (ltb-true _ _ l)))) (λ g. sym (and-false-left (ltb (first_comma s a e) e) _ g))
    (two (ltb (first_comma s a e) e))

-- ---- whether decimals, or a number's word, are right: by the digits' ends and the byte after the whole ones alone

pub decimals-formed : (s : List ℕ) (e p : ℕ) (m : Bool) (x f : ℕ) → f ≡ run digit s p 6 → is_formed (decimals s e m x p) ≡ cond (eqb f p) false (eqb f e)
unfolding decimals
decimals-formed s e p m x f h = go (eqb f p) (eqb f e) refl refl
  where
    go : (i j : Bool) → eqb f p ≡ i → eqb f e ≡ j → is_formed (decimals s e m x p) ≡ cond (eqb f p) false (eqb f e)
    go true j u v = rw (← h, u)
    go false true u v = rw (← h, u, v)
    go false false u v = rw (← h, u, v)

decimals-same : (s t : List ℕ) (e p : ℕ) (m : Bool) (x y : ℕ) → run digit t p 6 ≡ run digit s p 6 → is_formed (decimals t e m x p) ≡ is_formed (decimals s e m y p)
decimals-same s t e p m x y h = decimals-formed t e p m x (run digit s p 6) (sym h) ∙ sym (decimals-formed s e p m y (run digit s p 6) refl)

whole_same : (s t : List ℕ) (e : ℕ) (m : Bool) (b d : ℕ) → get_or t d 0 ≡ get_or s d 0 → run digit t (d + 1) 6 ≡ run digit s (d + 1) 6
    → is_formed (whole_and_decimals t e m b d) ≡ is_formed (whole_and_decimals s e m b d)
whole_same s t e m b d q r = go (eqb d b) (eqb (get_or s d 0) 46) (eqb d e) refl refl refl
  where
    go : (i j k : Bool) → eqb d b ≡ i → eqb (get_or s d 0) 46 ≡ j → eqb d e ≡ k → is_formed (whole_and_decimals t e m b d) ≡ is_formed (whole_and_decimals s e m b d)
    go true j k x y z = rw x
    go false true k x y z = rw (q, x, y) (decimals-same s t e (d + 1) m _ _ r)
    go false false true x y z = rw (q, x, y, z)
    go false false false x y z = rw (q, x, y, z)

abbrev stop_of : {A : Type 0} → Form A → ℕ
stop_of (formed x) = 0
stop_of (malformed p) = p

-- ---- the word that begins at a: the sign ends at b and the digits at d

module _ (s : List ℕ) (a b : ℕ) (h : a < length s) (first : solid (get_or s a 0) ≡ true) (sign : b ≡ after_sign s a) (d : ℕ) (ends : d ≡ run digit s b 9) where
  abbrev e : ℕ
  e = word_end s a

  b-from : a ≤ b
  b-from = subst (λ (j : ℕ). a ≤ j) (sym sign) (go (eqb (get_or s a 0) 45))
    where
      go : (x : Bool) → a ≤ cond x (a + 1) a
      go true = omega arith
      go false = omega arith

  d-from : b ≤ d
  d-from = subst (λ (j : ℕ). b ≤ j) (sym ends) (run-lower digit s b 9)

  word_end_lem : e ≡ word_end s d
  word_end_lem = sign-end s a b h first sign ∙ end-digits s b 9 d (sign-within s a b h sign) ends

  d-within : d ≤ e
  d-within = subst (λ (j : ℕ). d ≤ j) (sym word_end_lem) (end-lower s d)

  e-from : a ≤ e
  e-from = end-lower s a

  -- what stands before d is no comma
  minus-byte : (k : ℕ) → a ≤ k → k < b → get_or s k 0 ≡ 45
  minus-byte k l g = go (eqb (get_or s a 0) 45) refl sign
    where
      go : (x : Bool) → eqb (get_or s a 0) 45 ≡ x → b ≡ cond x (a + 1) a → get_or s k 0 ≡ 45
      go true u z = let q : k ≡ a = omega arith in ap (λ (j : ℕ). get_or s j 0) q ∙ eqb-true (get_or s a 0) 45 u
      go false u z = absurd (omega arith)

  before : (k : ℕ) → a ≤ k → k < d → not (comma (get_or s k 0)) ≡ true
  before k l g =
      elim (dec_lt k b) [
        | yes m ↦ ap (λ (x : ℕ). not (comma x)) (minus-byte k l m)
        | no m ↦
            let r = digit-range (get_or s k 0) (run-passes digit s b 9 k (omega arith) (subst (λ (j : ℕ). k < j) ends g)) in
            ap not (ne_eqb (get_or s k 0) 44 (λ z. omega (arith, r.0)))
      ]

  module _ (z : get_or s d 0 ≡ 44) where
    pub comma-end : e ≡ word_end s (d + 1)
    comma-end = word_end_lem ∙ end-byte s d (byte-within s d (λ n. omega arith)) (rw z)

    pub comma-inside : d < e
    comma-inside = omega (arith, comma-end, end-lower s (d + 1))

    comma-here : first_comma s a e ≡ d
    unfolding first_comma
    comma-here =
        run-after (λ x. not (comma x)) s a e d (omega (arith, b-from, d-from)) d-within before ∙ run-stop (λ x. not (comma x)) s d _ (ap (λ (x : ℕ). not (comma x)) z)

  -- the definition at these places, in the text itself and with a point at its first comma
  at : number_at s a e ≡ whole_and_decimals s e (ltb a b) b d
  at = number-at s a e b d sign ends

  at-point : (l : first_comma s a e < e) → number_at (set s (first_comma s a e) 46) a e ≡ whole_and_decimals (set s (first_comma s a e) 46) e (ltb a b) b d
  unfolding number_at
  at-point l = rw (same_sign s a e e-from l, ← sign, same_digits s a e e-from l b 9, ← ends)

  -- no comma decimal
  not-comma : (first_comma s a e < e → is_formed (number_at (set s (first_comma s a e) 46) a e) ≡ false) → false ≡ comma_decimal number_at s a e
  unfolding comma_decimal
  not-comma f = ⊎_elim (λ l. and-false-right (ltb (first_comma s a e) e) _ (f (ltb-true _ _ l))) (λ g. and-false-left (ltb (first_comma s a e) e) _ g) (two (ltb (first_comma s a e) e))

  pub comma-none : d ≡ b → false ≡ comma_decimal number_at s a e
  comma-none q = not-comma (λ l. ap is_formed (at-point l) ∙ rw (eq-eqb d b q))

  pub comma-off : (get_or s d 0 ≡ 44 → ⊥) → is_formed (number_at s a e) ≡ false → false ≡ comma_decimal number_at s a e
  comma-off z f =
      not-comma (λ l.
      let apart : d ≡ first_comma s a e → ⊥ = λ q. z (ap (λ (j : ℕ). get_or s j 0) q ∙ comma-byte s a e e-from l) in
      ap is_formed (at-point l) ∙ whole_same s _ e (ltb a b) b d (other_byte s a e e-from l d apart) (same_digits s a e e-from l (d + 1) 6)
      ∙ sym (ap is_formed at) ∙ f)

  -- a comma there, and digits up to f behind it
  module _ (some : d ≡ b → ⊥) (z : get_or s d 0 ≡ 44) (f : ℕ) (tail : f ≡ run digit s (d + 1) 6) where
    comma-is : cond (eqb f (d + 1)) false (eqb f e) ≡ comma_decimal number_at s a e
    unfolding comma_decimal
    comma-is =
        let c = comma-here z in
        let l : first_comma s a e < e = omega (arith, comma-inside z) in
        let point : get_or (set s (first_comma s a e) 46) d 0 ≡ 46 = subst (λ (j : ℕ). get_or (set s (first_comma s a e) 46) j 0 ≡ 46) c (point-byte s a e e-from l) in
        let end : f ≡ run digit (set s (first_comma s a e) 46) (d + 1) 6 = tail ∙ sym (same_digits s a e e-from l (d + 1) 6) in
        let is : is_formed (number_at (set s (first_comma s a e) 46) a e) ≡ cond (eqb f (d + 1)) false (eqb f e) =
        ap is_formed (at-point l) ∙ rw (ne_eqb d b some, eq-eqb _ 46 point) (decimals-formed _ e (d + 1) (ltb a b) _ f end) in
        sym is ∙ and-true-left (ltb (first_comma s a e) e) _ (lt-ltb _ _ l)

    -- no digit, or so many that the word ends there or goes on
    pub comma-short : f ≡ d + 1 → false ≡ comma_decimal number_at s a e
    comma-short q = subst (λ (x : Bool). cond x false (eqb f e) ≡ comma_decimal number_at s a e) (eq-eqb f (d + 1) q) comma-is

    pub comma-on : (f ≡ d + 1 → ⊥) → (r : Bool) → r ≡ eqb f (word_end s f) → r ≡ comma_decimal number_at s a e
    comma-on n r q =
        let ends : e ≡ word_end s f = comma-end z ∙ end-digits s (d + 1) 6 f (comma-next s d z) tail in
        q ∙ ap (eqb f) (sym ends) ∙ subst (λ (x : Bool). cond x false (eqb f e) ≡ comma_decimal number_at s a e) (ne_eqb f (d + 1) n) comma-is

  -- the number breaks at the comma
  pub comma-place : (p : ℕ) → number_at s a e ≡ malformed p → true ≡ comma_decimal number_at s a e → first_comma s a e ≡ p
  comma-place p m y =
      elim (ℕ_discrete d b) [
        | yes q ↦ absurd (true≢false (y ∙ sym (comma-none q)))
        | no some ↦
            elim (ℕ_discrete (get_or s d 0) 44) [
              | yes z ↦
                  let stops : number_at s a e ≡ malformed d = at ∙ rw (ne_eqb d b some, ne_eqb (get_or s d 0) 46 (λ x. omega arith), ne_eqb d e (λ x. omega (arith, comma-inside z))) in
                  comma-here z ∙ ap stop_of (sym stops ∙ m)
              | no z ↦ absurd (true≢false (y ∙ sym (comma-off z (ap is_formed m))))
            ]
      ]
