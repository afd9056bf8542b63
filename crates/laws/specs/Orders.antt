-- Cells that each point at one cell or at none, and an order in which each cell stands after all that point at it. Assumes nothing.
use Rattle.std.specs.Prelude.{◌≡◌, List, Bool, true, ℕ, ◌+◌, ◌<◌, get_or, eqb}
use Rattle.laws.specs.Sums.{sum_to, when}

-- at how many of the first m places of the list x stands
unfoldable pub stands_in : List ℕ → ℕ → ℕ → ℕ
unfolding sum_to when
stands_in order m x = sum_to m (λ i. when (eqb (get_or order i 0) x) 1)

-- how many of the first p places of the list have a number below n that passes a test
unfoldable pub taken_of : ℕ → (ℕ → Bool) → List ℕ → ℕ → ℕ
unfolding sum_to when stands_in
taken_of n test order p = sum_to n (λ x. when (test x) (stands_in order p x))

-- x has a place more among the first q of the one list than among the first p of the other, and nothing else has
pub record Placed (order : List ℕ) (p : ℕ) (order' : List ℕ) (q x : ℕ) : Type 0 where
  pub one : (z : ℕ) → stands_in order' q z ≡ stands_in order p z + when (eqb x z) 1

-- the first m places of the list are an order of the cells, each after all that point at it
pub record Ordered (cell : ℕ → Bool) (to : ℕ → ℕ) (order : List ℕ) (m : ℕ) : Type 0 where
  -- a cell stands at one place, and nothing else at any
  pub once : (x : ℕ) → stands_in order m x ≡ when (cell x) 1
  -- what points at the cell at a place stands before it
  pub after : (j x : ℕ) → j < m → to x ≡ get_or order j 0 → 0 < stands_in order j x

-- numbers below n that are cells; one that points at a number below n is a cell, and points at another cell
pub record Pointing (n : ℕ) (cell : ℕ → Bool) (to : ℕ → ℕ) : Type 0 where
  pub within : (x : ℕ) → cell x ≡ true → x < n
  pub from : (x : ℕ) → to x < n → cell x ≡ true
  pub stays : (x : ℕ) → to x < n → cell (to x) ≡ true
  pub apart : (x : ℕ) → to x < n → to x ≡ x → ⊥

-- ranks that fall along the pointing, as where there is no ring
pub record Falling (n : ℕ) (to rank : ℕ → ℕ) : Type 0 where
  pub less : (x : ℕ) → to x < n → rank (to x) < rank x
