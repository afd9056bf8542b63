-- Laws of `run`, for every loop that goes on while a test of the byte passes. Assumes nothing.
use mathlib.Core.Path.{◌≡◌, refl, sym, ap, ◌∙◌, subst}
use mathlib.Core.Bool.{Bool, true, false, true≢false}
use mathlib.Core.List.{List}
use Prim.Native.Nat.{ℕ, zero, suc, ◌+◌, ◌-◌, ◌≤◌, ◌<◌, max}
use native.Mathlib.Nat.{le_refl}
use native.Mathlib.Numerals.{add-one}
use native.Mathlib.Decide.{dec_lt}
use native.Mathlib.Omega.{arith}
use lib.ListN.{length, get_or, get_or-eq_default}
use Rattle.text.specs.Words.{run}
use Rattle.text.specs.InnerNumbers.{Limit}

module _ (p : ℕ → Bool) (s : List ℕ) where
  pub run-stop : (i n : ℕ) → p (get_or s i 0) ≡ false → run p s i n ≡ i
  unfolding run
  run-stop i zero h = refl
  run-stop i (suc n) h = rw (h, run)

  -- the bound e is passed
  pub run_end : (i e : ℕ) → e ≤ i → run p s i (e - i) ≡ i
  unfolding run
  run_end i e h = let z : e - i ≡ 0 = omega arith in rw z

  run_more : (i n : ℕ) → p (get_or s i 0) ≡ true → run p s i (suc n) ≡ run p s (suc i) n
  unfolding run
  run_more i n h = rw (h, run)

  pub run_step : (i e : ℕ) → i < e → p (get_or s i 0) ≡ true → run p s i (e - i) ≡ run p s (i + 1) (e - (i + 1))
  run_step i e l h =
      let z : e - i ≡ suc (e - (i + 1)) = omega arith in
      ap (λ (n : ℕ). run p s i n) z ∙ run_more i _ h ∙ ap (λ (j : ℕ). run p s j (e - (i + 1))) (sym (add-one i))

  -- a loop from `at` up to e that nothing stopped has come to i
  pub run-top : (at e i : ℕ) → e ≤ i → (at ≤ e → i ≤ e) → run p s at (e - at) ≡ run p s i (e - i) → max e at ≡ run p s at (e - at)
  run-top at e i h u q =
      elim (dec_lt e at) [
        | yes l ↦ omega (arith, run_end at e (omega arith))
        | no f ↦ omega (arith, u (omega arith), q, run_end i e h)
      ]

  pub run-lower : (i n : ℕ) → i ≤ run p s i n
  unfolding run
  run-lower i zero = le_refl i
  run-lower i (suc n) = go (p (get_or s i 0)) refl (run-lower (suc i) n)
    where
      go : (b : Bool) → p (get_or s i 0) ≡ b → suc i ≤ run p s (suc i) n → i ≤ run p s i (suc n)
      go true e h = rw (e, run) (omega arith)
      go false e h = rw (e, run) (le_refl i)

  pub run-upper : (i n : ℕ) → run p s i n ≤ i + n
  unfolding run
  run-upper i zero = omega arith
  run-upper i (suc n) = go (p (get_or s i 0)) refl (run-upper (suc i) n)
    where
      go : (b : Bool) → p (get_or s i 0) ≡ b → run p s (suc i) n ≤ suc i + n → run p s i (suc n) ≤ i + suc n
      go true e h = rw (e, run) (omega arith)
      go false e h = rw (e, run) (omega arith)

  -- the byte at which a run ends early fails the test
  pub run-fails : (i n : ℕ) → run p s i n < i + n → p (get_or s (run p s i n) 0) ≡ false
  unfolding run
  run-fails i zero h = absurd (omega arith)
  run-fails i (suc n) h = go (p (get_or s i 0)) refl (run-fails (suc i) n)
    where
      go : (b : Bool) → p (get_or s i 0) ≡ b → (run p s (suc i) n < suc i + n → p (get_or s (run p s (suc i) n) 0) ≡ false)
          → p (get_or s (run p s i (suc n)) 0) ≡ false
      go true e r = rw (e, run) (r (let q : run p s i (suc n) ≡ run p s (suc i) n = run_more i n e in omega arith))
      go false e r = rw (e, run) e

  -- a byte that is passed passes the test
  pub run-passes : (i n j : ℕ) → i ≤ j → j < run p s i n → p (get_or s j 0) ≡ true
  run-passes i zero j l h = absurd (omega (arith, run-upper i zero))
  run-passes i (suc n) j l h = go (p (get_or s i 0)) refl (run-passes (suc i) n j)
    where
      go : (b : Bool) → p (get_or s i 0) ≡ b → (suc i ≤ j → j < run p s (suc i) n → p (get_or s j 0) ≡ true) → p (get_or s j 0) ≡ true
      go false e r = absurd (omega (arith, run-stop i (suc n) e))
      go true e r =
          elim (dec_lt i j) [
            | yes k ↦ r (omega arith) (omega (arith, run_more i n e))
            | no k ↦ let q : i ≡ j = omega arith in subst (λ (x : ℕ). p (get_or s x 0) ≡ true) q e
          ]

  -- past the text's end nothing passes a test that 0 fails
  pub run-within : p 0 ≡ false → (i n : ℕ) → i ≤ length s → run p s i n ≤ length s
  run-within z i n h =
      elim (dec_lt (length s) (run p s i n)) [
        | yes l ↦ absurd (true≢false (sym (run-passes i n (length s) h l) ∙ ap p (get_or-eq_default s 0 {n = length s} (le_refl (length s))) ∙ z))
        | no f ↦ omega arith
      ]

  -- a run in two parts
  pub run-split : (m n i : ℕ) → run p s i (m + n) ≡ run p s (run p s i m) n
  unfolding run
  run-split zero n i = let z : zero + n ≡ n = omega arith in ap (λ (k : ℕ). run p s i k) z
  run-split (suc m) n i =
      let z : suc m + n ≡ suc (m + n) = omega arith in
      ap (λ (k : ℕ). run p s i k) z ∙ go (p (get_or s i 0)) refl (run-split m n (suc i))
    where
      go : (b : Bool) → p (get_or s i 0) ≡ b → run p s (suc i) (m + n) ≡ run p s (run p s (suc i) m) n → run p s i (suc (m + n)) ≡ run p s (run p s i (suc m)) n
      go true e r = run_more i (m + n) e ∙ r ∙ ap (λ (j : ℕ). run p s j n) (sym (run_more i m e))
      go false e r = run-stop i (suc (m + n)) e ∙ sym (ap (λ (j : ℕ). run p s j n) (run-stop i (suc m) e) ∙ run-stop i n e)

-- a run up to e may begin after bytes that pass the test
pub run-after : (q : ℕ → Bool) (s : List ℕ) (i e j : ℕ) → i ≤ j → j ≤ e → ((k : ℕ) → i ≤ k → k < j → q (get_or s k 0) ≡ true)
    → run q s i (e - i) ≡ run q s j (e - j)
run-after q s i e j l u h = go (j - i) i (omega arith) l h
  where
    go : (m i : ℕ) → j ≡ i + m → i ≤ j → ((k : ℕ) → i ≤ k → k < j → q (get_or s k 0) ≡ true) → run q s i (e - i) ≡ run q s j (e - j)
    go zero i d l h = let z : i ≡ j = omega arith in ap (λ (x : ℕ). run q s x (e - x)) z
    go (suc m) i d l h = run_step q s i e (omega arith) (h i (le_refl i) (omega arith)) ∙ go m (i + 1) (omega arith) (omega arith) (λ k a b. h k (omega arith) b)

-- two texts that pass a test at the same places have the same runs
pub run-same : (q : ℕ → Bool) (s t : List ℕ) → ((k : ℕ) → q (get_or t k 0) ≡ q (get_or s k 0)) → (i n : ℕ) → run q t i n ≡ run q s i n
unfolding run
run-same q s t h i zero = refl
run-same q s t h i (suc n) = go (q (get_or s i 0)) refl (run-same q s t h (suc i) n)
  where
    go : (b : Bool) → q (get_or s i 0) ≡ b → run q t (suc i) n ≡ run q s (suc i) n → run q t i (suc n) ≡ run q s i (suc n)
    go true e r = rw (h i, e, run) r
    go false e r = rw (h i, e, run) refl

-- ---- a loop over at most `most` places from a on, of a test that 0 fails: the run that is left at i

pub record Along (p : ℕ → Bool) (s : List ℕ) (a most i : ℕ) : Type 0 where
  pub left : run p s a most ≡ run p s i (a + most - i)
  pub from : a ≤ i
  pub short : i ≤ a + most
  pub within : i ≤ length s

module _ (p : ℕ → Bool) (s : List ℕ) (a most : ℕ) where
  pub along-none : a ≤ length s → Along p s a most a
  along-none h =
      let z : most ≡ a + most - a = omega arith in
      record { left = ap (λ (n : ℕ). run p s a n) z; from = le_refl a; short = omega arith; within = h }

  module _ (i : ℕ) (l : Along p s a most i) where
    pub along-more : i < a + most → i < length s → p (get_or s i 0) ≡ true → Along p s a most (i + 1)
    along-more h k e =
        record { left = l.left ∙ run_step p s i (a + most) h e; from = omega arith; short = omega arith; within = omega arith }

    pub along-stop : p (get_or s i 0) ≡ false → i ≡ run p s a most
    along-stop e = sym (l.left ∙ run-stop p s i _ e)

    pub along-end : p 0 ≡ false → (stop : ℕ) → Limit (length s) a most stop → i ≡ stop → stop ≡ run p s a most
    along-end z stop m h =
        sym h ∙ elim (dec_lt i (a + most)) [
          | yes k ↦ along-stop (ap p (get_or-eq_default s 0 {n = i} (omega (arith, m.last (omega (arith, m.short)), m.from))) ∙ z)
          | no f ↦ sym (l.left ∙ run_end p s i (a + most) (omega arith))
        ]
