-- Numbers that all differ. Assumes nothing.
use Rattle.std.specs.Prelude.{◌≡◌, ℕ, ◌<◌}

-- f 0 .. f (m - 1) are different numbers below n
pub record Apart (n m : ℕ) (f : ℕ → ℕ) : Type 0 where
  pub below : (i : ℕ) → i < m → f i < n
  pub differ : (i j : ℕ) → i < j → j < m → f i ≡ f j → ⊥
