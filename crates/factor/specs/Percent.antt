-- RULES 4.3: slopes in percent, by the cell side c and the steepness q. Assumes nothing.
use Rattle.std.specs.Prelude.{ℕ, ◌*◌, Bool, leb, ltb}

-- A drop d over a cell side c is a slope of 100·d / c percent, and its q is 2·d²; over a diagonal, √2·c, its q is d². Either way it is one of n percent
-- just where 5,000·q is n²·c² (the laws `cardinal-percent` and `diagonal-percent`).

-- a slope of n percent or more
unfoldable pub at_least : ℕ → ℕ → ℕ → Bool
at_least n c q = leb (n * n * (c * c)) (5000 * q)

-- a slope above n percent
unfoldable pub above : ℕ → ℕ → ℕ → Bool
above n c q = ltb (n * n * (c * c)) (5000 * q)
