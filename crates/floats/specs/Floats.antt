-- RULES 11.1: what the 32 bits of a float say, by IEEE 754's binary32. Bits are a number below 2 ^ 32. Assumes nothing.
use Rattle.std.specs.Prelude.{ℕ, ◌+◌, ◌-◌, ◌*◌, ◌/◌, ◌%◌, ◌^◌, Bool, cond, ◌&&◌, ◌||◌, List, leb, ltb, eqb, get_or}

-- the first bit: minus
abbrev pub sign : ℕ → Bool
sign b = leb (2 ^ 31) b

-- the other 31 bits
abbrev pub magnitude : ℕ → ℕ
magnitude b = b % 2 ^ 31

-- of these, the eight bits of the exponent and the 23 of the fraction
abbrev pub exponent : ℕ → ℕ
exponent m = m / 2 ^ 23

abbrev pub fraction : ℕ → ℕ
fraction m = m % 2 ^ 23

-- neither infinite nor NaN
unfoldable pub finite : ℕ → Bool
finite m = ltb (exponent m) 255

-- The exact size of a finite float, in units of 2 ^ -149 m: the fraction where the exponent is 0, else 2 ^ 23 and the fraction, doubled as often as
-- the exponent says.
unfoldable pub units : ℕ → ℕ
units m = cond (eqb (exponent m) 0) (fraction m) ((2 ^ 23 + fraction m) * 2 ^ (exponent m - 1))

-- so many units are a metre
abbrev pub metre : ℕ
metre = 2 ^ 149

-- Floats are equal if they have the same bits; plus zero and minus zero are equal too. (Of NaN nothing is asked.)
unfoldable pub equal : ℕ → ℕ → Bool
equal a b = eqb a b || (eqb (magnitude a) 0 && eqb (magnitude b) 0)

-- the float of the cell x: four bytes, the lowest bits first
unfoldable pub bits_at : List ℕ → ℕ → ℕ
bits_at s x = get_or s (4 * x) 0 + 2 ^ 8 * get_or s (4 * x + 1) 0 + 2 ^ 16 * get_or s (4 * x + 2) 0 + 2 ^ 24 * get_or s (4 * x + 3) 0
