-- Values that are handed on along an order: each cell's is joined of its own and of what the cells that point at it give. Assumes nothing.
use Rattle.std.specs.Prelude.{◌≡◌, List, Bool, ℕ, ◌≤◌, ◌<◌, length, get_or, ltb, eqb}
use Rattle.laws.specs.Sums.{when}
use Rattle.laws.specs.Orders.{stands_in, Pointing}

-- `all` joins the values at the numbers below n, as a sum does with `+` and the greatest with `max`
pub record Joining (join : ℕ → ℕ → ℕ) (all : ℕ → (ℕ → ℕ) → ℕ) : Type 0 where
  pub assoc : (a b c : ℕ) → join (join a b) c ≡ join a (join b c)
  pub unit : (a : ℕ) → join a 0 ≡ a
  pub up : (a b c : ℕ) → b ≤ c → join a b ≤ join a c
  pub zeros : (n : ℕ) (f : ℕ → ℕ) → ((i : ℕ) → i < n → f i ≡ 0) → all n f ≡ 0
  pub mono : (n : ℕ) (f g : ℕ → ℕ) → ((i : ℕ) → i < n → f i ≤ g i) → all n f ≤ all n g
  -- one value more
  pub more : (n : ℕ) (f g : ℕ → ℕ) (k : ℕ) → k < n → ((i : ℕ) → i < n → (i ≡ k → ⊥) → f i ≡ g i) → g k ≡ 0 → all n f ≡ join (all n g) (f k)

-- v at z is joined of z's own and of what the cells that point at z give, each of its v
pub record Handed (join : ℕ → ℕ → ℕ) (all : ℕ → (ℕ → ℕ) → ℕ) (n : ℕ) (cell : ℕ → Bool) (to : ℕ → ℕ) (give : ℕ → ℕ → ℕ) (own v : ℕ → ℕ) : Type 0 where
  pub joins : Joining join all
  pub points : Pointing n cell to
  pub local : (z : ℕ) → z < n → v z ≡ join (own z) (all n (λ x. when (eqb (to x) z) (give x (v x))))

module _ (join : ℕ → ℕ → ℕ) (all : ℕ → (ℕ → ℕ) → ℕ) (n : ℕ) (to : ℕ → ℕ) (give : ℕ → ℕ → ℕ) (own v : ℕ → ℕ) where
  -- what z has when the cells at the first p places have handed on
  unfoldable pub got_of : List ℕ → ℕ → ℕ → ℕ
  unfolding when stands_in
  got_of order p z = join (own z) (all n (λ x. when (eqb (to x) z) (when (ltb 0 (stands_in order p x)) (give x (v x)))))

  -- the list at that point, where a cell's entry becomes `fin` of its whole value when its turn comes
  pub record Handing (fin : ℕ → ℕ → ℕ) (order l : List ℕ) (p : ℕ) : Type 0 where
    pub long : length l ≡ n
    -- a cell whose turn has not come has its own and what it was given so far
    pub got : (z : ℕ) → z < n → stands_in order p z ≡ 0 → get_or l z 0 ≡ got_of order p z
    -- one whose turn has come has what is made of the whole
    pub done : (z : ℕ) → 0 < stands_in order p z → get_or l z 0 ≡ fin z (v z)
    -- and those that point at it have had their turn
    pub after : (x : ℕ) → 0 < stands_in order p (to x) → 0 < stands_in order p x

-- what a program does to the list at the turn of the cell x
pub record Turn (join : ℕ → ℕ → ℕ) (n : ℕ) (to : ℕ → ℕ) (give : ℕ → ℕ → ℕ) (v : ℕ → ℕ) (fin : ℕ → ℕ → ℕ) (l k : List ℕ) (x : ℕ) : Type 0 where
  pub long : length k ≡ length l
  pub made : get_or k x 0 ≡ fin x (v x)
  pub gave : to x < n → get_or k (to x) 0 ≡ join (get_or l (to x) 0) (give x (v x))
  pub kept : (z : ℕ) → (z ≡ x → ⊥) → (z ≡ to x → ⊥) → get_or k z 0 ≡ get_or l z 0
