-- The first number below n that passes a test. Assumes nothing.
use Rattle.std.specs.Prelude.{Bool, cond, ℕ, zero, suc, ltb}

-- the first number below n of which p holds, or n
unfoldable pub first_of : (ℕ → Bool) → ℕ → ℕ
first_of p zero = 0
first_of p (suc n) = let r = first_of p n in cond (ltb r n) r (cond (p n) n (suc n))

-- p holds of some number below n
unfoldable pub some_of : (ℕ → Bool) → ℕ → Bool
unfolding first_of
some_of p n = ltb (first_of p n) n
