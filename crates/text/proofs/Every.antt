-- A list every byte of which passes a test: as a test that computes, and byte by byte. Assumes nothing.
use mathlib.Core.Path.{◌≡◌, refl}
use mathlib.Core.Bool.{Bool, true, ◌&&◌}
use mathlib.Core.List.{List, [], ◌∷◌}
use Prim.Native.Nat.{ℕ, zero, suc, ◌<◌}
use native.Mathlib.Nat.{le_of_suc-le-suc, not-suc-le-zero}
use native.Mathlib.Omega.{arith}
use lib.ListN.{length, get_or}
use Rattle.laws.proofs.Tests.{and_both}

abbrev pub every : (ℕ → Bool) → List ℕ → Bool
every p [] = true
every p (b ∷ u) = p b && every p u

pub every-each : (p : ℕ → Bool) (u : List ℕ) → every p u ≡ true → (k : ℕ) → k < length u → p (get_or u k 0) ≡ true
every-each p [] e k h = absurd (not-suc-le-zero h)
every-each p (b ∷ u) e zero h = (and_both (p b) (every p u) e).0
every-each p (b ∷ u) e (suc k) h = every-each p u (and_both (p b) (every p u) e).1 k (le_of_suc-le-suc h)

pub each-every : (p : ℕ → Bool) (u : List ℕ) → ((k : ℕ) → k < length u → p (get_or u k 0) ≡ true) → every p u ≡ true
each-every p [] h = refl
each-every p (b ∷ u) h = rw (h 0 (omega arith)) (each-every p u (λ k l. h (suc k) (omega arith)))
