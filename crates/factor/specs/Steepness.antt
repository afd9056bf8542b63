-- RULES 6.3: the sine in thousandths, and the steepness factor by either formula. Assumes nothing.
use Rattle.std.specs.Prelude.{ℕ, ◌+◌, ◌-◌, ◌*◌, ◌/◌, max, Bool, cond, leb}
use Rattle.laws.specs.Greatest.{greatest}
use Rattle.settings.specs.declared.Formula.{Formula}
use Rattle.settings.specs.declared.Formula.TheVariants.{Older, Newer}

-- u²·(q + 2·c²) ≤ 1,000,000·q
abbrev pub sine_reaches : ℕ → ℕ → ℕ → Bool
sine_reaches c q u = leb (u * u * (q + 2 * (c * c))) (1000000 * q)

-- Sine in thousandths: the greatest u. For a cell side from 1 on none above 1,000 passes (`sine-greatest` of proofs/).
unfoldable pub sine_of : ℕ → ℕ → ℕ
unfolding greatest
sine_of c q = greatest (sine_reaches c q) 1000

-- the older formula, of Handbook 537: floor((65,410·u² + 4,560,000·u + 65,000,000) / 1,000,000)
unfoldable pub older_factor : ℕ → ℕ
older_factor u = (65410 * (u * u) + 4560000 * u + 65000000) / 1000000

-- nine percent or more: 5,000·q ≥ 81·c²
unfoldable pub is_steep : ℕ → ℕ → Bool
is_steep c q = leb (81 * (c * c)) (5000 * q)

-- the newer formula, of Handbook 703: floor((10,800·u + 30,000) / 1,000) below nine percent, floor((16,800·u - 500,000) / 1,000) from nine percent on.
-- From nine percent on u is 89 at least (`steep-sine` of proofs/), so nothing is lost in the difference.
unfoldable pub newer_factor : Bool → ℕ → ℕ
newer_factor steep u = cond steep ((16800 * u - 500000) / 1000) ((10800 * u + 30000) / 1000)

-- in the newer choice a u of 0 counts as 1
unfoldable pub counted : ℕ → ℕ
counted u = max u 1

-- S in thousandths, by the chosen formula
unfoldable pub steepness_factor : Formula → ℕ → ℕ → ℕ
unfolding sine_of older_factor is_steep newer_factor counted
steepness_factor Older c q = older_factor (sine_of c q)
steepness_factor Newer c q = newer_factor (is_steep c q) (counted (sine_of c q))
