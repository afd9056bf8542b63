-- Laws of the first number below n that passes a test. Assumes nothing.
use mathlib.Core.Path.{◌≡◌, refl, sym, ap, ◌∙◌}
use mathlib.Core.Bool.{Bool, true, false, cond, true≢false}
use mathlib.Core.Logic.{⊎_elim}
use Prim.Native.Nat.{ℕ, zero, suc, ◌≤◌, ◌<◌}
use native.Mathlib.Omega.{arith}
use native.Mathlib.Decide.{dec_lt, ℕ_discrete}
use lib.Dec.{ltb}
use borrow.Author.Tests.{ltb-true, ltb-false, lt-ltb}
use Rattle.laws.specs.First.{first_of, some_of}
use Rattle.laws.proofs.Tests.{two}

-- what is found passes
pub first_holds : (p : ℕ → Bool) (n : ℕ) → first_of p n < n → p (first_of p n) ≡ true
unfolding first_of
first_holds p zero h = absurd (omega arith)
first_holds p (suc n) h = go (first_holds p n) (ltb (first_of p n) n) refl (p n) refl h
  where
    go : (first_of p n < n → p (first_of p n) ≡ true) → (b : Bool) → ltb (first_of p n) n ≡ b → (c : Bool) → p n ≡ c → cond b (first_of p n) (cond c n (suc n)) < suc n → p (cond b (first_of p n) (cond c n (suc n))) ≡ true
    go ih true e c q l = ih (ltb-true (first_of p n) n e)
    go ih false e true q l = q
    go ih false e false q l = absurd (omega arith)

-- it is no later than any number that passes
pub first-le : (p : ℕ → Bool) (n k : ℕ) → k < n → p k ≡ true → first_of p n ≤ k
unfolding first_of
first-le p zero k l h = absurd (omega arith)
first-le p (suc n) k l h = go (λ lt. first-le p n k lt h) (ltb (first_of p n) n) refl (p n) refl (ℕ_discrete k n)
  where
    go : (k < n → first_of p n ≤ k) → (b : Bool) → ltb (first_of p n) n ≡ b → (c : Bool) → p n ≡ c → Dec (k ≡ n) → cond b (first_of p n) (cond c n (suc n)) ≤ k
    go ih true e c q (yes d) = omega (arith, ltb-true (first_of p n) n e)
    go ih true e c q (no d) = ih (omega arith)
    go ih false e true q (yes d) = omega arith
    go ih false e true q (no d) = omega (arith, ih (omega arith), ltb-false (first_of p n) n e)
    go ih false e false q (yes d) = absurd (true≢false (sym h ∙ ap p d ∙ q))
    go ih false e false q (no d) = omega (arith, ih (omega arith), ltb-false (first_of p n) n e)

pub first-top : (p : ℕ → Bool) (n : ℕ) → first_of p n ≤ n
unfolding first_of
first-top p zero = omega arith
first-top p (suc n) = go (first-top p n) (ltb (first_of p n) n) (p n)
  where
    go : first_of p n ≤ n → (b c : Bool) → cond b (first_of p n) (cond c n (suc n)) ≤ suc n
    go h true c = omega arith
    go h false true = omega arith
    go h false false = omega arith

-- the first that passes, as a loop finds it
pub first-is : (p : ℕ → Bool) (n k : ℕ) → ((j : ℕ) → j < k → p j ≡ false) → k < n → p k ≡ true → first_of p n ≡ k
first-is p n k none h e =
    let le = first-le p n k h e in
    elim (dec_lt (first_of p n) k) [ yes lt ↦ absurd (true≢false (sym (first_holds p n (omega arith)) ∙ none (first_of p n) lt)) | no f ↦ omega arith ]

pub first-none : (p : ℕ → Bool) (n : ℕ) → ((j : ℕ) → j < n → p j ≡ false) → first_of p n ≡ n
first-none p n none = elim (dec_lt (first_of p n) n) [ yes lt ↦ absurd (true≢false (sym (first_holds p n lt) ∙ none (first_of p n) lt)) | no f ↦ omega (arith, first-top p n) ]

-- nothing before the first passes
pub first-before : (p : ℕ → Bool) (n k : ℕ) → k < first_of p n → p k ≡ false
first-before p n k h = ⊎_elim (λ e. absurd (omega (arith, first-le p n k (omega (arith, first-top p n)) e))) (λ e. e) (two (p k))

pub first-ext : (p q : ℕ → Bool) (n : ℕ) → ((k : ℕ) → k < n → p k ≡ q k) → first_of p n ≡ first_of q n
unfolding first_of
first-ext p q zero h = refl
first-ext p q (suc n) h = rw (first-ext p q n (λ k l. h k (omega arith)), h n (omega arith))

-- ---- some number below n passes

pub some_is : (p : ℕ → Bool) (n : ℕ) → some_of p n ≡ true → (k : ℕ) × (k < n) × (p k ≡ true)
unfolding some_of
some_is p n e = let l = ltb-true (first_of p n) n e in (first_of p n, l, first_holds p n l)

pub some-yes : (p : ℕ → Bool) (n k : ℕ) → k < n → p k ≡ true → some_of p n ≡ true
unfolding some_of
some-yes p n k h e = lt-ltb (first_of p n) n (omega (arith, first-le p n k h e))

pub none-at : (p : ℕ → Bool) (n k : ℕ) → some_of p n ≡ false → k < n → p k ≡ false
none-at p n k e h = ⊎_elim (λ t. absurd (true≢false (sym (some-yes p n k h t) ∙ e))) (λ t. t) (two (p k))
