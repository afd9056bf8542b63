-- Peeling (Kahn 1962): a cell is taken once every cell that points at it is. The states of a program that does so. Assumes nothing.
use Rattle.std.specs.Prelude.{◌≡◌, List, Bool, true, ℕ, ◌+◌, ◌-◌, ◌≤◌, ◌<◌, length, get_or, eqb}
use Rattle.laws.specs.Sums.{sum_to, when}
use Rattle.laws.specs.Orders.{stands_in}

-- how many of the n cells point at z and stand at none of the first p places
unfoldable pub left_of : ℕ → (ℕ → ℕ) → List ℕ → ℕ → ℕ → ℕ
unfolding sum_to when stands_in
left_of n to order p z = sum_to n (λ x. when (eqb (to x) z) (1 - stands_in order p x))

-- the first p places of the order are taken; a cell below the bound that is not taken and waits for none is the one in hand
pub record Peeling (n : ℕ) (cell : ℕ → Bool) (to : ℕ → ℕ) (order waiting : List ℕ) (p bound hand : ℕ) : Type 0 where
  pub long : length order ≡ n
  pub wide : length waiting ≡ n
  pub once : (x : ℕ) → stands_in order p x ≤ when (cell x) 1
  pub after : (j x : ℕ) → j < p → to x ≡ get_or order j 0 → 0 < stands_in order j x
  pub waits : (z : ℕ) → cell z ≡ true → stands_in order p z ≡ 0 → get_or waiting z 0 ≡ left_of n to order p z
  pub shut : (z : ℕ) → z < n → get_or waiting z 0 ≡ 0 → (cell z ≡ true) × (stands_in order p z ≡ 0)
  pub ready : (z : ℕ) → cell z ≡ true → z < bound → stands_in order p z ≡ 0 → get_or waiting z 0 ≡ 0 → z ≡ hand
  pub held : hand < n → get_or waiting hand 0 ≡ 0

-- what a program does to what cells wait for as it takes the cell x, and the cell that it then has in hand, if any: it may leave one from the bound on for later
pub record Taking (n : ℕ) (to : ℕ → ℕ) (before waiting : List ℕ) (bound x hand : ℕ) : Type 0 where
  pub wide : length waiting ≡ length before
  pub shut : 0 < get_or waiting x 0
  pub other : (z : ℕ) → (z ≡ x → ⊥) → (z ≡ to x → ⊥) → get_or waiting z 0 ≡ get_or before z 0
  pub one : to x < n → get_or waiting (to x) 0 + 1 ≡ get_or before (to x) 0
  pub some : hand < n → (hand ≡ to x) × (get_or waiting hand 0 ≡ 0)
  pub none : to x < n → to x < bound → get_or waiting (to x) 0 ≡ 0 → hand ≡ to x
