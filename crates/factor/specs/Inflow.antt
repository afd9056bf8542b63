-- RULES 5.2: what one inflow brings. Assumes nothing.
use Rattle.std.specs.Prelude.{Bool, cond, ◌&&◌, ◌||◌, ℕ, ◌+◌, ◌-◌, ◌*◌, ltb, leb, eqb}
use Rattle.terrain.specs.Cells.{cardinal}

-- The receiving cell's slope picks the cutoff; under 5 percent means 200·q < c².
unfoldable pub cutoff_for : ℕ → ℕ → ℕ → ℕ → ℕ
cutoff_for low high side q = cond (ltb (200 * q) (side * side)) low high

-- Cut, for receiving q, inflow p and n percent: n is below 100, q < p, and 10,000·q ≤ (100 - n)²·p.
unfoldable pub is_cut : ℕ → ℕ → ℕ → Bool
is_cut n q p = (ltb n 100 && ltb q p) && leb (10000 * q) ((100 - n) * (100 - n) * p)

-- the direction of a flow that leaves diagonally: SE 2, SW 8, NW 32, NE 128
abbrev pub diagonal : ℕ → Bool
diagonal code = eqb code 2 || eqb code 8 || eqb code 32 || eqb code 128

-- where a length starts, by the cell's own direction: half the diagonal, 7,071, where its flow leaves diagonally, else 5,000; direction 0 keeps 5,000
unfoldable pub start_length : ℕ → ℕ
start_length code = cond (diagonal code) 7071 5000

-- the step to the neighbour k: 10,000, or 14,142 if diagonal
unfoldable pub step_over : ℕ → ℕ
step_over k = cond (cardinal k) 10000 14142

-- Each inflow brings one amount. Both steepnesses 0: where the receiving cell's length starts. A cut: 0. Else its length plus 10,000, or
-- 14,142 if diagonal.
unfoldable pub amount_of : ℕ → ℕ → ℕ → ℕ → ℕ → ℕ → ℕ
unfolding is_cut
amount_of n q p start step len = cond (eqb q 0 && eqb p 0) start (cond (is_cut n q p) 0 (len + step))
