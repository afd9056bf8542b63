-- The pigeonhole: different numbers below n are at most n. Assumes nothing.
use mathlib.Core.Path.{◌≡◌, sym, ◌∙◌}
use mathlib.Core.Bool.{Bool, true≢false}
use mathlib.Core.Logic.{⊎_elim}
use Prim.Native.Nat.{ℕ, zero, suc, ◌≤◌, ◌<◌}
use native.Mathlib.Omega.{arith}
use native.Mathlib.Decide.{ℕ_discrete}
use lib.Dec.{eqb}
use borrow.Author.Tests.{eq-eqb, eqb-true}
use Rattle.laws.specs.First.{some_of}
use Rattle.laws.specs.Pigeon.{Apart}
use Rattle.laws.proofs.Tests.{two}
use Rattle.laws.proofs.First.{some_is, some-yes, none-at}

-- the number n itself gives way to the number a
swapped : (n a v : ℕ) → Dec (v ≡ n) → ℕ
swapped n a v (yes e) = a
swapped n a v (no f) = v

swap-below : (n a v : ℕ) (d : Dec (v ≡ n)) → v < suc n → a < suc n → (v ≡ a → ⊥) → swapped n a v d < n
unfolding swapped
swap-below n a v (yes e) h k q = elim (ℕ_discrete a n) [ yes e' ↦ absurd (q (omega arith)) | no f ↦ omega arith ]
swap-below n a v (no f) h k q = omega arith

swap-differ : (n a v w : ℕ) (d : Dec (v ≡ n)) (d' : Dec (w ≡ n)) → (v ≡ w → ⊥) → (v ≡ a → ⊥) → (w ≡ a → ⊥) → swapped n a v d ≡ swapped n a w d' → ⊥
unfolding swapped
swap-differ n a v w (yes e) (yes e') p q r h = p (omega arith)
swap-differ n a v w (yes e) (no f) p q r h = r (omega arith)
swap-differ n a v w (no f) (yes e) p q r h = q (omega arith)
swap-differ n a v w (no f) (no f') p q r h = p h

pub pigeon : (n m : ℕ) (f : ℕ → ℕ) → Apart n m f → m ≤ n
pigeon zero zero f p = omega arith
pigeon zero (suc m) f p = absurd (omega (arith, p.below 0 (omega arith)))
pigeon (suc n) zero f p = omega arith
pigeon (suc n) (suc m) f p =
    omega (
      arith,
      pigeon n m (λ i. swapped n (f m) (f i) (ℕ_discrete (f i) n))
          (record {
            below = (λ i h. swap-below n (f m) (f i) (ℕ_discrete (f i) n) (p.below i (omega arith)) (p.below m (omega arith)) (p.differ i m h (omega arith)));
            differ = (λ i j lt h. swap-differ n (f m) (f i) (f j) (ℕ_discrete (f i) n) (ℕ_discrete (f j) n) (p.differ i j lt (omega arith)) (p.differ i m (omega arith) (omega arith)) (p.differ j m h (omega arith)));
          }),
    )

-- so of more than n numbers below n two are the same
pub pigeon-meet : (n m : ℕ) (f : ℕ → ℕ) → n < m → ((i : ℕ) → i < m → f i < n) → (i : ℕ) × (j : ℕ) × (i < j) × (j < m) × (f i ≡ f j)
pigeon-meet n m f h below =
    ⊎_elim (λ e. let w = some_is again m e in let u = some_is (same w.0) w.0 w.2 in (u.0, w.0, u.1, w.1, eqb-true (f u.0) (f w.0) u.2))
    (λ e. absurd (omega (arith, pigeon n m f (record { below = below; differ = (λ i j l k q. true≢false (sym (some-yes (same j) j i l (eq-eqb (f i) (f j) q)) ∙ none-at again m j e k)) }))))
    (two (some_of again m))
  where
    same : ℕ → ℕ → Bool
    same j i = eqb (f i) (f j)

    again : ℕ → Bool
    again j = some_of (same j) j
