-- RULES 6.1: the exponent of the length factor, in tenths. Assumes nothing.
use Rattle.std.specs.Prelude.{ℕ, ◌*◌, cond, leb, ltb}

-- Exponent k/10: k = 5 if 200·q ≥ c²; else 4 if 5,000·q > 9·c²; else 3 if 5,000·q ≥ c²; else 2.
unfoldable pub exponent_of : ℕ → ℕ → ℕ
exponent_of c q = cond (leb (c * c) (200 * q)) 5 (cond (ltb (9 * (c * c)) (5000 * q)) 4 (cond (leb (c * c) (5000 * q)) 3 2))
