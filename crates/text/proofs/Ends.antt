-- Where words begin and end. Assumes nothing.
use mathlib.Core.Path.{◌≡◌, refl, sym, ap, ◌∙◌, subst}
use mathlib.Core.Bool.{Bool, true, false, not, true≢false}
use mathlib.Core.List.{List}
use Prim.Native.Nat.{ℕ, ◌+◌, ◌-◌, ◌≤◌, ◌<◌}
use native.Mathlib.Decide.{dec_lt}
use native.Mathlib.Omega.{arith}
use borrow.Author.Tests.{lt-ltb, le-ltb, eq-eqb, ne_eqb, eqb-true}
use lib.Dec.{eqb}
use lib.ListN.{length, get_or, get_or-eq_default}
use Rattle.text.specs.Reader.{got, refused}
use Rattle.text.specs.Words.{blank, solid, run, word_start, word_end, word}
use Rattle.text.specs.Numbers.{digit}
use Rattle.text.proofs.Bytes.{digit-solid}
use Rattle.text.proofs.InnerRuns.{run-stop, run_end, run_step, run-lower, run-upper, run-fails, run-passes, run-within, run-after}

module _ (s : List ℕ) where
  -- a byte that is not 0 stands within the text
  pub byte-within : (i : ℕ) → (get_or s i 0 ≡ 0 → ⊥) → i < length s
  byte-within i h = elim (dec_lt i (length s)) [ yes l ↦ l | no f ↦ absurd (h (get_or-eq_default s 0 {n = i} (omega arith))) ]

  digit-within : (i : ℕ) → digit (get_or s i 0) ≡ true → i < length s
  digit-within i h = byte-within i (λ e. true≢false (sym h ∙ ap digit e))

  pub end-lower : (i : ℕ) → i ≤ word_end s i
  unfolding word_end
  end-lower i = run-lower solid s i (length s - i)

  pub end-upper : (i : ℕ) → i ≤ length s → word_end s i ≤ length s
  unfolding word_end
  end-upper i h = omega (arith, run-upper solid s i (length s - i))

  end_after : (i j : ℕ) → i ≤ j → j ≤ length s → ((k : ℕ) → i ≤ k → k < j → solid (get_or s k 0) ≡ true) → word_end s i ≡ word_end s j
  unfolding word_end
  end_after i j l h e = run-after solid s i (length s) j l h e

  pub end-byte : (i : ℕ) → i < length s → solid (get_or s i 0) ≡ true → word_end s i ≡ word_end s (i + 1)
  unfolding word_end
  end-byte i h e = run_step solid s i (length s) h e

  pub end-digits : (i n d : ℕ) → i ≤ length s → d ≡ run digit s i n → word_end s i ≡ word_end s d
  end-digits i n d h e =
      subst (λ (j : ℕ). word_end s i ≡ word_end s j) (sym e)
      (end_after i (run digit s i n) (run-lower digit s i n) (run-within digit s refl i n h)
      (λ k a b. digit-solid (get_or s k 0) (run-passes digit s i n k a b)))

  end-here : (i : ℕ) → blank (get_or s i 0) ≡ true → word_end s i ≡ i
  unfolding word_end
  end-here i h = run-stop solid s i (length s - i) (ap not h)

  end-past : (i : ℕ) → length s ≤ i → word_end s i ≡ i
  unfolding word_end
  end-past i h = run_end solid s i (length s) h

  -- whether the word that goes on up to i ends there
  pub ends-in : (i : ℕ) (r : Bool) → i < length s → r ≡ blank (get_or s i 0) → r ≡ eqb i (word_end s i)
  ends-in i true h e = sym (eq-eqb i (word_end s i) (sym (end-here i (sym e))))
  ends-in i false h e = sym (ne_eqb i (word_end s i) (λ q. omega (arith, end-byte i h (ap not (sym e)), end-lower (i + 1))))

  pub ends-past : (i : ℕ) → length s ≤ i → true ≡ eqb i (word_end s i)
  ends-past i h = sym (eq-eqb i (word_end s i) (sym (end-past i h)))

  -- where a word ends no digit stands
  pub end-no-digit : (i : ℕ) → eqb i (word_end s i) ≡ true → digit (get_or s i 0) ≡ false
  end-no-digit i h = go (digit (get_or s i 0)) refl
    where
      go : (b : Bool) → digit (get_or s i 0) ≡ b → b ≡ false
      go false e = refl
      go true e =
          absurd (omega (arith, eqb-true i (word_end s i) h, end-byte i (digit-within i e) (digit-solid (get_or s i 0) e), end-lower (i + 1)))

  module _ (at a : ℕ) (p : a ≡ word_start s at) where
    from : a < length s → at ≤ a
    unfolding word_start
    from h = subst (λ (n : ℕ). at ≤ n) (sym p) (run-lower blank s at (length s - at))

    -- a word's first byte is no blank
    pub first-solid : a < length s → solid (get_or s a 0) ≡ true
    unfolding word_start
    first-solid h =
        let l = from h in
        ap not (subst (λ (n : ℕ). blank (get_or s n 0) ≡ false) (sym p)
        (run-fails blank s at (length s - at) (subst (λ (n : ℕ). n < at + (length s - at)) p (omega arith))))

    pub word-found : a < length s → word s at ≡ got (record { start = a; end = word_end s a }) (word_end s a)
    unfolding word
    word-found h = rw (← p, lt-ltb a (length s) h)

    pub word_none : length s ≤ a → word s at ≡ refused 9 (length s)
    unfolding word
    word_none h = rw (← p, le-ltb a (length s) h)
