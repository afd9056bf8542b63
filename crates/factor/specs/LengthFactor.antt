-- RULES 6.2: the slope length in mm, and the length factor. Assumes nothing.
use Rattle.std.specs.Prelude.{ℕ, ◌*◌, ◌^◌, ◌/◌, Bool, leb}
use Rattle.laws.specs.Greatest.{greatest}

-- Length in mm: floor(length·c / 1,000), for a length in ten-thousandths of the cell side c
abbrev pub millimetres : ℕ → ℕ → ℕ
millimetres c length = length * c / 1000

-- the greatest length in mm that has a factor: Above 304,800 (1,000 ft, a house limit): too long.
abbrev pub greatest_mm : ℕ
greatest_mm = 304800

-- t^10·2,212,848^k ≤ (100·mm)^k·100^10 (72.6 ft is 22,128.48 mm)
abbrev pub reached : ℕ → ℕ → ℕ → Bool
reached k mm t = leb (t ^ 10 * 2212848 ^ k) ((100 * mm) ^ k * 100 ^ 10)

-- L: the greatest whole t, in hundredths. Up to 304,800 mm none above 1,000 is reached (`length-factor-greatest` of proofs/).
unfoldable pub length_factor : ℕ → ℕ → ℕ
unfolding greatest
length_factor k mm = greatest (reached k mm) 1000
