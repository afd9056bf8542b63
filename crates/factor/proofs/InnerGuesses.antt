-- A guess that is checked: a number that passes a test, with the next one failing, is the greatest that passes. Assumes nothing.
use mathlib.Core.Path.{◌≡◌, refl, sym, ◌∙◌}
use mathlib.Core.Bool.{Bool, true, false, cond, true≢false}
use Prim.Native.Nat.{ℕ, ◌+◌, ◌≤◌, ◌<◌}
use native.Mathlib.Omega.{arith}
use Rattle.laws.specs.Greatest.{greatest}
use Rattle.laws.proofs.Greatest.{Falling, greatest-is}

pub greatest-here : {p : ℕ → Bool} (n t : ℕ) → Falling p n → t ≤ n → p t ≡ true → p (t + 1) ≡ false → greatest p n ≡ t
greatest-here {p} n t falling l passes fails = greatest-is p n t l (λ h. passes) (λ u a b. go u a b (p u) refl)
  where
    go : (u : ℕ) → t < u → u ≤ n → (b : Bool) → p u ≡ b → p u ≡ false
    go u a b true e = absurd (true≢false (sym (falling (t + 1) u (omega arith) (omega arith) b e) ∙ fails))
    go u a b false e = e

-- the guess or the next
pub moved-one : (b : Bool) (g : ℕ) {t : ℕ} → t ≡ cond b (g + 1) g → t ≤ g + 1
moved-one true g e = omega arith
moved-one false g e = omega arith
