-- What the reader makes of decimal digits: where they end, what they stand for, and that a written count is read back. Assumes nothing.
use mathlib.Core.Path.{◌≡◌, refl, sym, ap, ap₂, ◌∙◌}
use mathlib.Core.Bool.{Bool, true, false, ◌&&◌}
use mathlib.Core.List.{List, [], ◌∷◌, ◌++◌, append_assoc, append-nil}
use Prim.Native.Nat.{ℕ, zero, suc, ◌+◌, ◌*◌, ◌/◌, ◌%◌, ◌≤◌, ◌<◌}
use native.Mathlib.Nat.{add-zero, zero-add, sub-zero}
use native.Mathlib.Numerals.{add-one}
use native.Mathlib.Decide.{dec_lt}
use native.Mathlib.Omega.{arith}
use borrow.Author.Tests.{lt-ltb, le-leb, eq-eqb, ne_eqb}
use lib.ListN.{length, get_or, drop}
use lib.Seq.{get_or-drop, get_or-append_seam}
use Rattle.laws.proofs.Tests.{and_both}
use Rattle.text.specs.Words.{run}
use Rattle.text.specs.Numbers.{digit, digit_of, value, formed, count_form_at}
use Rattle.text.proofs.Every.{every}
use Rattle.text.proofs.InnerRuns.{run-stop}
use Rattle.text.proofs.Pieces.{drop_past}
use Rattle.numerals.specs.Words.{decimal}
use Rattle.numerals.proofs.Decimal.{decimal_digit, decimal-more, decimal-longer, decimal-short}

-- ---- digits that stand in a text s from the place i on

-- a byte after those of u
pub byte-after : (s : List ℕ) (i : ℕ) (u : List ℕ) (b : ℕ) (v : List ℕ) → drop i s ≡ u ++ (b ∷ v) → get_or s (i + length u) 0 ≡ b
byte-after s i u b v e = sym (get_or-drop i s (length u) 0) ∙ ap (λ (l : List ℕ). get_or l (length u) 0) e ∙ get_or-append_seam u b v 0

-- digits up to a byte that is none
pub run-digits : (s w v : List ℕ) (i m : ℕ) → drop i s ≡ w ++ v → every digit w ≡ true → length w ≤ m → digit (get_or v 0 0) ≡ false
    → run digit s i m ≡ i + length w
unfolding run
run-digits s [] v i m e d l n =
    let first : get_or s i 0 ≡ get_or v 0 0 = rw (add-zero i) at (sym (get_or-drop i s 0 0) ∙ ap (λ (u : List ℕ). get_or u 0 0) e) in
    run-stop digit s i m (ap digit first ∙ n) ∙ sym (add-zero i)
run-digits s (b ∷ w) v i zero e d l n = absurd (omega arith)
run-digits s (b ∷ w) v i (suc m) e d l n =
    let both = and_both (digit b) (every digit w) d in
    let first : get_or s i 0 ≡ b = rw (add-zero i) at (byte-after s i [] b (w ++ v) e) in
    let next : drop (suc i) s ≡ w ++ v = rw (add-one i) at (drop_past s i (b ∷ []) (w ++ v) e) in
    rw (ap digit first ∙ both.0, run) (run-digits s w v (suc i) m next both.1 (omega arith) n ∙ omega arith)

pub digit-of : (k : ℕ) → k < 10 → digit (48 + k) ≡ true
digit-of k h = rw (le-leb 48 (48 + k) (omega arith), le-leb (48 + k) 57 (omega arith))

digit-is : (k : ℕ) → k < 10 → digit_of (48 + k) ≡ k
digit-is k h = rw (digit-of k h) (omega arith)

-- one digit more
module _ (s : List ℕ) (e i : ℕ) (u : List ℕ) (k : ℕ) (v : List ℕ) (small : k < 10) (text : drop i s ≡ u ++ ((48 + k) ∷ v)) (within : i + length u < e) where
  pub value-digit : value s e i (suc (length u)) ≡ value s e i (length u) * 10 + k
  unfolding value
  value-digit = rw (lt-ltb (i + length u) e within, byte-after s i u (48 + k) v text, digit-is k small)

-- the digits of a number
module _ (s : List ℕ) (e i : ℕ) where
  value-within : (fuel n : ℕ) (v : List ℕ) → n < fuel → drop i s ≡ decimal n ++ v → i + length (decimal n) ≤ e
      → value s e i (length (decimal n)) ≡ n
  unfolding value
  value-within zero n v f t l = absurd (omega arith)
  value-within (suc fuel) n v f t l =
      elim (dec_lt n 10) [
        | yes h ↦
            let d = decimal_digit n h in
            let one = ap length d in
            ap (value s e i) one
            ∙ value-digit s e i [] n v h (t ∙ ap (λ (w : List ℕ). w ++ v) d) (omega arith)
            ∙ zero-add n
        | no h ↦
            let tens : 10 ≤ n = omega arith in
            let more = decimal-longer n tens in
            let w = decimal (n / 10) in
            let text : drop i s ≡ w ++ ((48 + n % 10) ∷ v) =
            t ∙ ap (λ (l : List ℕ). l ++ v) (decimal-more n tens) ∙ append_assoc w ((48 + n % 10) ∷ []) v in
            ap (value s e i) (more ∙ add-one (length w))
            ∙ value-digit s e i w (n % 10) v (omega arith) text (omega arith)
            ∙ ap (λ (x : ℕ). x * 10 + n % 10) (value-within fuel (n / 10) ((48 + n % 10) ∷ v) (omega arith) text (omega arith))
            ∙ omega arith
      ]

  pub value-decimal : (n : ℕ) (v : List ℕ) → drop i s ≡ decimal n ++ v → i + length (decimal n) ≤ e → value s e i (length (decimal n)) ≡ n
  value-decimal n v t l = value-within (suc n) n v (omega arith) t l

-- every byte of a number is a digit, and there is one
every-after : (p : ℕ → Bool) (u v : List ℕ) → every p u ≡ true → every p v ≡ true → every p (u ++ v) ≡ true
every-after p [] v e f = f
every-after p (b ∷ u) v e f = let both = and_both (p b) (every p u) e in ap₂ ◌&&◌ both.0 (every-after p u v both.1 f)

digits-within : (fuel n : ℕ) → n < fuel → every digit (decimal n) ≡ true
digits-within zero n f = absurd (omega arith)
digits-within (suc fuel) n f =
    elim (dec_lt n 10) [
      | yes h ↦ ap (every digit) (decimal_digit n h) ∙ ap₂ ◌&&◌ (digit-of n h) refl
      | no h ↦
          ap (every digit) (decimal-more n (omega arith))
          ∙ every-after digit (decimal (n / 10)) ((48 + n % 10) ∷ []) (digits-within fuel (n / 10) (omega arith))
          (ap₂ ◌&&◌ (digit-of (n % 10) (omega arith)) refl)
    ]

pub decimal-digits : (n : ℕ) → every digit (decimal n) ≡ true
decimal-digits n = digits-within (suc n) n (omega arith)

pub decimal-some : (n : ℕ) → 0 < length (decimal n)
decimal-some n =
    elim (dec_lt n 10) [ yes h ↦ omega (arith, ap length (decimal_digit n h)) | no h ↦ omega (arith, decimal-longer n (omega arith)) ]

-- ---- a word of digits only

module _ (n : ℕ) where
  pub decimal-ends : n < 1000000000 → run digit (decimal n) 0 9 ≡ length (decimal n)
  decimal-ends h =
      let w = decimal n in
      run-digits w w [] 0 9 (sym (append-nil w)) (decimal-digits n) (decimal-short 8 n h) refl ∙ zero-add (length w)

  pub decimal-value : value (decimal n) (length (decimal n)) 0 (length (decimal n)) ≡ n
  decimal-value = let w = decimal n in value-decimal w (length w) 0 n [] (sym (append-nil w)) (omega arith)

  pub count-form : n < 1000000000 → count_form_at (decimal n) 0 (length (decimal n)) ≡ formed n
  unfolding count_form_at
  count-form h =
      let w = decimal n in
      rw (decimal-ends h, ne_eqb (length w) 0 (λ e. omega (arith, decimal-some n)), eq-eqb (length w) (length w) refl, sub-zero (length w))
      (ap formed decimal-value)
