-- The form of a number, one law for each way out of the code. Assumes nothing.
use mathlib.Core.Path.{◌≡◌, refl, sym, ap, ◌∙◌, subst}
use mathlib.Core.Bool.{Bool, true, false, cond}
use mathlib.Core.List.{List}
use Prim.Native.Nat.{ℕ, ◌+◌, ◌-◌, ◌*◌, ◌≤◌, ◌<◌}
use native.Mathlib.Decide.{dec_lt}
use native.Mathlib.Omega.{arith}
use borrow.Author.Tests.{le-ltb, eq-eqb, ne_eqb, eqb-true}
use lib.Dec.{eqb, ltb}
use lib.ListN.{length, get_or}
use Rattle.text.specs.Words.{solid, run, word_end}
use Rattle.text.specs.Numbers.{digit, zero, value, after_sign, decimals, whole_and_decimals, number_at}
use Rattle.std.proofs.Common.{Result, Ok, Err}
use Rattle.text.specs.declared.numbers.Formed.{Formed}
use Rattle.text.specs.declared.numbers.Malformed.{Malformed}
use Rattle.text.specs.InnerNumbers.{DigitsFrom, HundredthsFrom, TailFrom, Parsed}
use Rattle.text.proofs.Bytes.{zero-digit}
use Rattle.text.proofs.InnerRuns.{run-stop, run-lower, run-upper, run-fails, run-passes, run-within, run-split, run-after}
use Rattle.text.proofs.Ends.{byte-within, end-byte, end-digits}
use Rattle.text.proofs.InnerValues.{value-wider}

-- ---- zeros from q on, of which at most four are looked at, end at z

module _ (s : List ℕ) (q z : ℕ) (e : z ≡ run zero s q 4) where
  pub zeros-from : q ≤ z
  zeros-from = subst (λ (j : ℕ). q ≤ j) (sym e) (run-lower zero s q 4)

  pub zeros-short : z - q ≤ 4
  zeros-short = let u = subst (λ (j : ℕ). j ≤ q + 4) (sym e) (run-upper zero s q 4) in omega arith

  pub zeros_within : q ≤ length s → z ≤ length s
  zeros_within h = subst (λ (j : ℕ). j ≤ length s) (sym e) (run-within zero s refl q 4 h)

-- ---- past the first two decimals, which stand from p up to q

module _ (s : List ℕ) (p q : ℕ) (h : p ≤ length s) (e : q ≡ run digit s p 2) where
  six : run digit s p 6 ≡ run digit s q 4
  six = run-split digit s 2 4 p ∙ ap (λ (j : ℕ). run digit s j 4) (sym e)

  pub two-within : q ≤ length s
  two-within = subst (λ (j : ℕ). j ≤ length s) (sym e) (run-within digit s refl p 2 h)

  pub two_from : p ≤ q
  two_from = subst (λ (j : ℕ). p ≤ j) (sym e) (run-lower digit s p 2)

  two-short : q ≤ p + 2
  two-short = subst (λ (j : ℕ). j ≤ p + 2) (sym e) (run-upper digit s p 2)

  pub tail_none : digit (get_or s q 0) ≡ false → TailFrom s p q false
  tail_none d =
      record {
        ends = sym (six ∙ run-stop digit s q 4 d);
        is = sym (le-ltb (run zero s (p + 2) 4) q (omega (arith, run-lower zero s (p + 2) 4, two-short)));
        from = two_from;
        within = two-within;
      }

  short-stops : q - p < 2 → digit (get_or s q 0) ≡ false
  short-stops l = subst (λ (j : ℕ). digit (get_or s j 0) ≡ false) (sym e) (run-fails digit s p 2 (subst (λ (j : ℕ). j < p + 2) e (omega (arith, two_from))))

  pub tail-short : q - p < 2 → TailFrom s p q false
  tail-short l = tail_none (short-stops l)

  pub tail_more : 2 ≤ q - p → (z v f : ℕ) → z ≡ run zero s q 4 → DigitsFrom s z (4 - (z - q)) v f → TailFrom s p f (ltb z f)
  tail_more l z v f w d =
      let two : q ≡ p + 2 = omega (arith, two-short) in
      let low = zeros-from s q z w in
      let up : z ≤ q + 4 = omega (arith, zeros-short s q z w) in
      let four : q + 4 - q ≡ 4 = omega arith in
      let rest : 4 - (z - q) ≡ q + 4 - z = omega arith in
      let zeros : (k : ℕ) → q ≤ k → k < z → digit (get_or s k 0) ≡ true = λ k a b. zero-digit (get_or s k 0) (run-passes zero s q 4 k a (subst (λ (j : ℕ). k < j) w b)) in
      record {
        ends = d.ends ∙ ap (run digit s z) rest ∙ sym (ap (run digit s q) (sym four) ∙ run-after digit s q (q + 4) z low up zeros) ∙ sym six;
        is = ap (λ (j : ℕ). ltb j f) (w ∙ ap (λ (j : ℕ). run zero s j 4) two);
        from = omega (arith, d.from, two_from);
        within = d.within;
      }

-- ---- the decimals from p on: the first two end at q, and all of them at f

module _ (s : List ℕ) (p x q : ℕ) (w : HundredthsFrom s p x q) (minus : Bool) (size : ℕ) where
  abbrev e : ℕ
  e = word_end s p

  pub decimals-none : p ≤ length s → q ≡ p → Parsed e (decimals s e minus size p) (Err (record { at = p }))
  unfolding decimals
  decimals-none h z =
      let t = tail-short s p q h w.ends (omega arith) in
      let f : run digit s p 6 ≡ p = sym t.ends ∙ z in
      record { is = rw (f, eq-eqb p p refl); ends = tt }

  module _ (h : p ≤ length s) (some : q ≡ p → ⊥) (f : ℕ) (fine : Bool) (t : TailFrom s p f fine) where
    q-le : q ≤ f
    q-le = subst (λ (j : ℕ). q ≤ j) (sym (t.ends ∙ six s p q h w.ends)) (run-lower digit s q 4)

    same-value : value s f p 2 ≡ x
    same-value =
        elim (dec_lt q (p + 2)) [
          | yes l ↦ let u = tail-short s p q h w.ends (omega (arith, w.from)) in ap (λ (j : ℕ). value s j p 2) (t.ends ∙ sym u.ends) ∙ sym w.is
          | no g ↦ value-wider s f q p 2 (omega (arith, q-le, w.short)) (omega arith) ∙ sym w.is
        ]

    e-is : e ≡ word_end s f
    e-is = end-digits s p 6 f h t.ends

    apart : eqb f p ≡ false
    apart = ne_eqb f p (λ z. some (omega (arith, q-le, w.from)))

    pub decimals-off : eqb f (word_end s f) ≡ false → Parsed e (decimals s e minus size p) (Err (record { at = f }))
    unfolding decimals
    decimals-off b = record { is = rw (← t.ends, apart, e-is, b); ends = tt }

    pub decimals-on : size < 100000000000 → eqb f (word_end s f) ≡ true → Parsed e (decimals s e minus size p) (Ok (record { minus = minus; size = size + x; fine = fine; end = f }))
    unfolding decimals
    decimals-on l b = record { is = rw (← t.ends, apart, e-is, b, same-value, t.is); ends = (eqb-true f (word_end s f) b ∙ sym e-is, omega (arith, w.small)) }

-- ---- the whole number: the sign ends at b and the digits at d

-- the definition at these places, up to any end e
pub number-at : (s : List ℕ) (a e b d : ℕ) → b ≡ after_sign s a → d ≡ run digit s b 9 → number_at s a e ≡ whole_and_decimals s e (ltb a b) b d
unfolding number_at
number-at s a e b d sign ends = rw (← sign, ← ends)

module _ (s : List ℕ) (a b : ℕ) (h : a < length s) (sign : b ≡ after_sign s a) where
  pub sign-within : b ≤ length s
  sign-within = subst (λ (j : ℕ). j ≤ length s) (sym sign) (go (eqb (get_or s a 0) 45))
    where
      go : (t : Bool) → cond t (a + 1) a ≤ length s
      go true = omega arith
      go false = omega arith

module _ (s : List ℕ) (a b : ℕ) (h : a < length s) (first : solid (get_or s a 0) ≡ true) (sign : b ≡ after_sign s a) where
  pub sign-end : word_end s a ≡ word_end s b
  sign-end = go (eqb (get_or s a 0) 45) sign
    where
      go : (t : Bool) → b ≡ cond t (a + 1) a → word_end s a ≡ word_end s b
      go true e = end-byte s a h first ∙ ap (word_end s) (sym e)
      go false e = ap (word_end s) (sym e)

  module _ (v d : ℕ) (w : DigitsFrom s b 9 v d) where
    word_end_lem : word_end s a ≡ word_end s d
    word_end_lem = sign-end ∙ end-digits s b 9 d (sign-within s a b h sign) w.ends

    at : number_at s a (word_end s a) ≡ whole_and_decimals s (word_end s a) (ltb a b) b d
    at = number-at s a (word_end s a) b d sign w.ends

    pub point-within : get_or s d 0 ≡ 46 → d + 1 ≤ length s
    point-within z = omega (arith, byte-within s d (λ n. omega arith))

    pub form-none : d ≡ b → Parsed (word_end s a) (number_at s a (word_end s a)) (Err (record { at = d }))
    form-none z = record { is = sym (at ∙ rw (eq-eqb d b z)); ends = tt }

    module _ (some : d ≡ b → ⊥) where
      pub form-point : get_or s d 0 ≡ 46 → (r : Result Formed Malformed) → Parsed (word_end s (d + 1)) (decimals s (word_end s (d + 1)) (ltb a b) (v * 100) (d + 1)) r
          → Parsed (word_end s a) (number_at s a (word_end s a)) r
      form-point z r m =
          let e : word_end s a ≡ word_end s (d + 1) = word_end_lem ∙ end-byte s d (omega (arith, point-within z)) (rw z) in
          let is : decimals s (word_end s a) (ltb a b) (value s d b (d - b) * 100) (d + 1) ≡ number_at s a (word_end s a) = sym (at ∙ rw (ne_eqb d b some, eq-eqb (get_or s d 0) 46 z)) in
          subst (λ (j : ℕ). Parsed j (number_at s a (word_end s a)) r) (sym e)
          (record { is = m.is ∙ rw (← e, w.is) is; ends = m.ends })

      module _ (z : get_or s d 0 ≡ 46 → ⊥) where
        pub form-off : eqb d (word_end s d) ≡ false → Parsed (word_end s a) (number_at s a (word_end s a)) (Err (record { at = d }))
        form-off t = record { is = sym (at ∙ rw (ne_eqb d b some, ne_eqb (get_or s d 0) 46 z, word_end_lem, t)); ends = tt }

        pub form-on : eqb d (word_end s d) ≡ true → Parsed (word_end s a) (number_at s a (word_end s a)) (Ok (record { minus = ltb a b; size = v * 100; fine = false; end = d }))
        form-on t =
            record {
              is = sym (at ∙ rw (ne_eqb d b some, ne_eqb (get_or s d 0) 46 z, word_end_lem, t, w.is));
              ends = (eqb-true d (word_end s d) t ∙ sym word_end_lem, omega (arith, w.small));
            }
