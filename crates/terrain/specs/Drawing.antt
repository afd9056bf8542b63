-- RULES 4.7 in words: what is right for a code that somebody else drew, over ground, filled heights and codes, and where steps along the codes lead. What Given
-- computes is this (proofs/Accepting). Assumes nothing.
use Rattle.std.specs.Prelude.{◌≡◌, ℕ, ◌*◌, ◌<◌, ◌⊎◌, List, get_or, ℤ, ◌≤ℤ◌, slice_index_or}
use Rattle.terrain.specs.Cells.{no_data, neighbour, code_of, Valid, Rim}
use Rattle.terrain.specs.Drainage.{surface_of}

-- the code of the cell x breaks none of the rules of refusal 17
pub record Right (rows cols : ℕ) (elevation filled : List ℤ) (dir : List ℕ) (x : ℕ) : Type 0 where
  -- every NoData cell has 255
  pub no-data : get_or elevation x no_data ≡ no_data → slice_index_or dir x 255 ≡ 255
  -- every other code is one of the nine
  pub nine : Valid elevation x → (slice_index_or dir x 255 ≡ 0) ⊎ ((k : ℕ) × (k < 8) × (slice_index_or dir x 255 ≡ code_of k))
  -- no code points off the grid or at NoData
  pub aim : (k : ℕ) → k < 8 → slice_index_or dir x 255 ≡ code_of k → Valid elevation (neighbour rows cols x k)
  -- none points to a higher filled cell
  pub fall : (k : ℕ) → k < 8 → slice_index_or dir x 255 ≡ code_of k → surface_of filled (neighbour rows cols x k) ≤ℤ surface_of filled x
  -- 0 stands only on rim cells
  pub rim : get_or dir x 255 ≡ 0 → Rim rows cols elevation x

module _ (rows cols : ℕ) (dir : List ℕ) where
  -- one or more steps along the codes lead from a cell to a cell
  pub data Leads : ℕ → ℕ → Type 0 where
    once : (x k : ℕ) → k < 8 → slice_index_or dir x 255 ≡ code_of k → Leads x (neighbour rows cols x k)
    more : (x k z : ℕ) → k < 8 → slice_index_or dir x 255 ≡ code_of k → Leads (neighbour rows cols x k) z → Leads x z

  -- the cell x lies on a ring: the trail from x meets it again
  abbrev pub GoesRound : ℕ → Type 0
  GoesRound x = Leads x x

-- a grid of directions that is accepted: every code is right, and no trail goes round
pub record Acceptable (rows cols : ℕ) (elevation filled : List ℤ) (dir : List ℕ) : Type 0 where
  pub right : (x : ℕ) → x < rows * cols → Right rows cols elevation filled dir x
  pub ringless : (x : ℕ) → GoesRound rows cols dir x → ⊥
