-- Laws of `value`, and of a loop over digits. Assumes nothing.
use mathlib.Core.Path.{◌≡◌, refl, sym, ap, ◌∙◌, subst}
use mathlib.Core.Bool.{Bool, true, false, cond}
use mathlib.Core.List.{List}
use Prim.Native.Nat.{ℕ, zero, suc, ◌+◌, ◌-◌, ◌*◌, ◌^◌, ◌≤◌, ◌<◌}
use native.Mathlib.Nat.{lt_of_lt_of_le, pow-le-pow_right, pow-suc}
use native.Mathlib.Numerals.{add-one}
use native.Mathlib.Decide.{dec_lt}
use native.Mathlib.Omega.{arith}
use borrow.Author.Tests.{lt-ltb, le-ltb}
use lib.Dec.{lit<}
use lib.ListN.{length, get_or}
use Rattle.text.specs.Words.{run}
use Rattle.text.specs.Numbers.{digit, digit_of, digit_at, value}
use Rattle.text.specs.InnerNumbers.{Limit, DigitsFrom, HundredthsFrom}
use Rattle.text.proofs.Bytes.{digit-range}
use Rattle.text.proofs.InnerRuns.{Along, along-none, along-more, along-stop, along-end}

digit-small : (b : ℕ) → digit_of b ≤ 9
digit-small b = go (digit b) refl
  where
    go : (t : Bool) → digit b ≡ t → cond t (b - 48) 0 ≤ 9
    go true e = omega (arith, (digit-range b e).1)
    go false e = omega arith

module _ (s : List ℕ) where
  digit_at_lem : (e i : ℕ) → i < e → digit_at s e i ≡ digit_of (get_or s i 0)
  digit_at_lem e i h = rw (lt-ltb i e h)

  digit-past : (e i : ℕ) → e ≤ i → digit_at s e i ≡ 0
  digit-past e i h = rw (le-ltb i e h)

  digit-at-small : (e i : ℕ) → digit_at s e i ≤ 9
  digit-at-small e i =
      elim (dec_lt i e) [ yes h ↦ rw (digit_at_lem e i h) (digit-small (get_or s i 0)) | no f ↦ rw (digit-past e i (omega arith)) (omega arith) ]

  value_none : (e i : ℕ) → value s e i 0 ≡ 0
  unfolding value
  value_none e i = refl

  value-more : (e i n : ℕ) → value s e i (n + 1) ≡ value s e i n * 10 + digit_at s e (i + n)
  unfolding value
  value-more e i n = rw (add-one n, value)

  value-small : (e i n : ℕ) → value s e i n < 10 ^ n
  unfolding value
  value-small e i zero = omega arith
  value-small e i (suc n) = rw pow-suc (omega (arith, value-small e i n, digit-at-small e (i + n)))

  -- the end matters only to the places from it on
  pub value-wider : (e f i n : ℕ) → i + n ≤ e → i + n ≤ f → value s e i n ≡ value s f i n
  unfolding value
  value-wider e f i zero h k = refl
  value-wider e f i (suc n) h k =
      rw (value-wider e f i n (omega arith) (omega arith), digit_at_lem e (i + n) (omega arith), digit_at_lem f (i + n) (omega arith))

-- ---- a loop over at most `most` digits from a on: v is what those before i stand for

pub record Scanned (s : List ℕ) (a most v i : ℕ) : Type 0 where
  pub along : Along digit s a most i
  pub is : v ≡ value s i a (i - a)

module _ (s : List ℕ) (a most : ℕ) where
  pub scan-none : a ≤ length s → Scanned s a most 0 a
  scan-none h =
      let z : a - a ≡ 0 = omega arith in
      record { along = along-none digit s a most h; is = sym (ap (value s a a) z ∙ value_none s a a) }

  module _ (v i : ℕ) (w : Scanned s a most v i) where
    pub scan-more : i < a + most → i < length s → (d : ℕ) → digit (get_or s i 0) ≡ true → d ≡ digit_of (get_or s i 0) → Scanned s a most (v * 10 + d) (i + 1)
    scan-more h k d t e =
        let l = w.along in
        let q : i + 1 - a ≡ i - a + 1 = omega arith in
        let r : a + (i - a) ≡ i = omega arith in
        let wide = value-wider s i (i + 1) a (i - a) (omega arith) (omega arith) in
        let last = ap (digit_at s (i + 1)) r ∙ digit_at_lem s (i + 1) i (omega arith) in
        record {
          along = along-more digit s a most i l h k t;
          is = sym (ap (value s (i + 1) a) q ∙ value-more s (i + 1) a (i - a)
              ∙ ap (λ (x : ℕ). x * 10 + digit_at s (i + 1) (a + (i - a))) (sym (w.is ∙ wide))
              ∙ ap (λ (x : ℕ). v * 10 + x) (last ∙ sym e));
        }

    pub scan-small : (k : ℕ) → i - a ≤ k → v < 10 ^ k
    scan-small k h = subst (λ (x : ℕ). x < 10 ^ k) (sym w.is) (lt_of_lt_of_le (value-small s i a (i - a)) (pow-le-pow_right (lit< tt) h))

    found : most ≤ 9 → i ≡ run digit s a most → DigitsFrom s a most v i
    found m e =
        let l = w.along in
        record { ends = e; is = w.is; from = l.from; within = l.within; short = l.short; small = scan-small 9 (omega arith) }

    pub scan-stop : most ≤ 9 → digit (get_or s i 0) ≡ false → DigitsFrom s a most v i
    scan-stop m e = found m (along-stop digit s a most i w.along e)

    pub scan-end : most ≤ 9 → (stop : ℕ) → Limit (length s) a most stop → i ≡ stop → DigitsFrom s a most v stop
    scan-end m stop l h = subst (DigitsFrom s a most v) h (found m (h ∙ along-end digit s a most i w.along refl stop l h))

-- two places of which fewer were read
module _ (s : List ℕ) (p v end : ℕ) (d : DigitsFrom s p 2 v end) where
  one_place : end - p < 2 → v ≡ value s end p 1
  one_place h =
      elim (dec_lt p end) [
        | yes k ↦ let z : end - p ≡ 1 = omega (arith, d.from) in d.is ∙ ap (value s end p) z
        | no f ↦
            let z : end - p ≡ 0 = omega arith in
            let w = value-more s end p 0 in
            d.is ∙ ap (value s end p) z ∙ value_none s end p
            ∙ sym (w ∙ ap (λ (x : ℕ). value s end p 0 * 10 + x) (digit-past s end (p + 0) (omega arith)) ∙ ap (λ (x : ℕ). x * 10 + 0) (value_none s end p))
      ]

  pub hundredths-short : end - p < 2 → HundredthsFrom s p (v * 10) end
  hundredths-short h =
      let e = one_place h in
      let two : value s end p 2 ≡ v * 10 = value-more s end p 1 ∙ rw (digit-past s end (p + 1) (omega arith), ← e) (omega arith) in
      record { ends = d.ends; is = sym two; from = d.from; within = d.within; short = d.short; small = omega (arith, e, value-small s end p 1) }

  pub hundredths-full : 2 ≤ end - p → HundredthsFrom s p v end
  hundredths-full h =
      let z : end - p ≡ 2 = omega (arith, d.short) in
      let e = d.is ∙ ap (value s end p) z in
      record { ends = d.ends; is = e; from = d.from; within = d.within; short = d.short; small = omega (arith, e, value-small s end p 2) }
