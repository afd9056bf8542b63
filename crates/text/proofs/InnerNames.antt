-- Laws of `named`, for the loop over a name. Assumes nothing.
use mathlib.Core.Path.{◌≡◌, sym, ap, ◌∙◌}
use mathlib.Core.Bool.{Bool, true, false, ◌&&◌}
use mathlib.Core.List.{List, [], ◌∷◌}
use mathlib.Core.Logic.{⊎_elim}
use Prim.Native.Nat.{ℕ, suc, ◌+◌, ◌-◌, ◌≤◌, ◌<◌}
use native.Mathlib.Numerals.{add-one}
use native.Mathlib.Omega.{arith}
use borrow.Author.Tests.{lt-ltb, ltb-true, eq-eqb, ne_eqb, eqb-true}
use Rattle.laws.proofs.Tests.{two, and_both}
use lib.Dec.{eqb, ltb}
use lib.ListN.{length, get_or, drop, drop_of_length-le}
use lib.Seq.{drop-cons}
use Rattle.text.specs.Headers.{named, lower}

other : (s : List ℕ) (i e x : ℕ) (xs : List ℕ) → i < e → (lower (get_or s i 0) ≡ x → ⊥) → named s i e (x ∷ xs) ≡ false
unfolding named
other s i e x xs h k = part (ltb i e) (eqb (lower (get_or s i 0)) x) (named s (suc i) e xs) (lt-ltb i e h) (ne_eqb _ _ k)
  where
    part : (a b c : Bool) → a ≡ true → b ≡ false → a && b && c ≡ false
    part a b c p q = rw (p, q)

more : (s : List ℕ) (i e x : ℕ) (xs : List ℕ) → i < e → lower (get_or s i 0) ≡ x → named s i e (x ∷ xs) ≡ named s (suc i) e xs
unfolding named
more s i e x xs h k = part (ltb i e) (eqb (lower (get_or s i 0)) x) (named s (suc i) e xs) (lt-ltb i e h) (eq-eqb _ _ k)
  where
    part : (a b c : Bool) → a ≡ true → b ≡ true → a && b && c ≡ c
    part a b c p q = rw (p, q)

-- a name of another length than the bytes
named-long : (s : List ℕ) (i e : ℕ) (n : List ℕ) → i ≤ e → named s i e n ≡ true → i + length n ≡ e
unfolding named
named-long s i e [] h t = let q = eqb-true i e t in omega arith
named-long s i e (x ∷ xs) h t =
    let p = and_both (ltb i e && eqb (lower (get_or s i 0)) x) (named s (suc i) e xs) t in
    let q = and_both (ltb i e) (eqb (lower (get_or s i 0)) x) p.0 in
    let l = ltb-true i e q.0 in
    omega (arith, named-long s (suc i) e xs (omega arith) p.1)

pub named-unlike : (s : List ℕ) (a e : ℕ) (n : List ℕ) → a ≤ e → (e - a ≡ length n → ⊥) → false ≡ named s a e n
named-unlike s a e n h d = ⊎_elim (λ t. absurd (d (omega (arith, named-long s a e n h t)))) (λ f. sym f) (two (named s a e n))

-- j bytes were compared
module _ (s : List ℕ) (a e : ℕ) (n : List ℕ) (j : ℕ) where
  split : j < length n → named s (a + j) e (drop j n) ≡ named s (a + j) e (get_or n j 0 ∷ drop (suc j) n)
  split h = ap (λ (l : List ℕ). named s (a + j) e l) (drop-cons n j 0 h)

  pub named_other : j < length n → a + j < e → (lower (get_or s (a + j) 0) ≡ get_or n j 0 → ⊥) → named s (a + j) e (drop j n) ≡ false
  named_other h k l = split h ∙ other s (a + j) e _ _ k l

  pub named_more : j < length n → a + j < e → lower (get_or s (a + j) 0) ≡ get_or n j 0
      → named s (a + j) e (drop j n) ≡ named s (a + (j + 1)) e (drop (j + 1) n)
  named_more h k l =
      let q : suc (a + j) ≡ a + (j + 1) = omega arith in
      split h ∙ more s (a + j) e _ _ k l ∙ ap (λ (i : ℕ). named s i e (drop (suc j) n)) q ∙ ap (λ (i : ℕ). named s (a + (j + 1)) e (drop i n)) (sym (add-one j))

  pub named_end : length n ≤ j → a + j ≡ e → true ≡ named s (a + j) e (drop j n)
  unfolding named
  named_end h q = rw (drop_of_length-le n h) (sym (eq-eqb (a + j) e q))
