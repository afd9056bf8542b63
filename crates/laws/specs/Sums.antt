-- Sums and the greatest value over the numbers below n. Assumes nothing.
use Rattle.std.specs.Prelude.{Bool, cond, ℕ, zero, suc, ◌+◌, max}

-- f 0 + f 1 + .. + f (n - 1)
unfoldable pub sum_to : ℕ → (ℕ → ℕ) → ℕ
sum_to zero f = 0
sum_to (suc n) f = sum_to n f + f n

-- the greatest of f 0, f 1, .. f (n - 1); 0 where there is none
unfoldable pub greatest_to : ℕ → (ℕ → ℕ) → ℕ
greatest_to zero f = 0
greatest_to (suc n) f = max (greatest_to n f) (f n)

-- m if the test holds, else 0
unfoldable pub when : Bool → ℕ → ℕ
when b m = cond b m 0
