-- RULES 4.5: trails along given directions, flow counts, the longest trail and the number of valid cells. Assumes nothing.
use Rattle.std.specs.Prelude.{◌≡◌, ℕ, zero, suc, ◌+◌, ◌*◌, ◌<◌, Bool, cond, not, ◌&&◌, ◌⊎◌, List, ℤ, ◌≤ℤ◌, ◌==◌, nat_lt, slice_index_or}
use Rattle.laws.specs.Lists.{tab}
use Rattle.laws.specs.Sums.{sum_to, greatest_to, when}
use Rattle.terrain.specs.Cells.{neighbour, code_of, bearing_of, Valid, valid_at}

-- the number of valid cells, of a grid of levels
unfoldable pub valids_of : ℕ → ℕ → List ℕ → ℕ
unfolding sum_to when
valids_of rows cols lv = sum_to (rows * cols) (λ x. when (valid_at lv x) 1)

module _ (rows cols : ℕ) (dir : List ℕ) where
  -- ---- A trail begins at a valid cell. From a cell whose direction is not 0 it goes on to the neighbour that the direction points at; at a cell with direction 0 it ends.

  pub data Trail : ℕ → Type 0 where
    ends : (x : ℕ) → slice_index_or dir x 255 ≡ 0 → Trail x
    goes : (x k : ℕ) → k < 8 → slice_index_or dir x 255 ≡ code_of k → Trail (neighbour rows cols x k) → Trail x

  -- every cell of the trail is valid
  abbrev pub OnValid : List ℤ → {x : ℕ} → Trail x → Type 0
  OnValid elevation (ends x e) = Valid elevation x
  OnValid elevation (goes x k h e t) = Valid elevation x × OnValid elevation t

  -- no cell of the trail is higher on the surface s than the cell before
  abbrev pub TrailNeverRises : (ℕ → ℤ) → {x : ℕ} → Trail x → Type 0
  TrailNeverRises s (ends x e) = Unit {0}
  TrailNeverRises s (goes x k h e t) = (s (neighbour rows cols x k) ≤ℤ s x) × TrailNeverRises s t

  -- the trail meets the cell z
  abbrev pub Meets : ℕ → {x : ℕ} → Trail x → Type 0
  Meets z (ends x e) = z ≡ x
  Meets z (goes x k h e t) = (z ≡ x) ⊎ Meets z t

  -- the trail meets no cell twice
  abbrev pub NeverTwice : {x : ℕ} → Trail x → Type 0
  NeverTwice (ends x e) = Unit {0}
  NeverTwice (goes x k h e t) = (Meets x t → ⊥) × NeverTwice t

  -- the cell where the trail leaves the map
  abbrev pub last_of : {x : ℕ} → Trail x → ℕ
  last_of (ends x e) = x
  last_of (goes x k h e t) = last_of t

  -- the steps between its cells; leaving the map is no step
  abbrev pub steps : {x : ℕ} → Trail x → ℕ
  steps (ends x e) = 0
  steps (goes x k h e t) = suc (steps t)

  -- ---- the same as a computation, of no more steps than the grid has cells

  -- a valid cell
  unfoldable pub mapped_at : ℕ → Bool
  mapped_at x = not (slice_index_or dir x 255 == 255)

  -- a cell whose direction points at a neighbour, and that neighbour
  unfoldable pub flows_at : ℕ → Bool
  unfolding bearing_of
  flows_at x = nat_lt (bearing_of (slice_index_or dir x 255)) 8

  unfoldable pub next_at : ℕ → ℕ
  unfolding bearing_of neighbour
  next_at x = neighbour rows cols x (bearing_of (slice_index_or dir x 255))

  -- the cell that x points at; rows * cols, which is no cell, where it points at none
  unfoldable pub receiver_of : ℕ → ℕ
  unfolding flows_at next_at
  receiver_of x = cond (flows_at x) (next_at x) (rows * cols)

  -- the steps of the trail from x, at most m
  unfoldable pub steps_in : ℕ → ℕ → ℕ
  unfolding flows_at next_at
  steps_in zero x = 0
  steps_in (suc m) x = cond (flows_at x) (steps_in m (next_at x) + 1) 0

  -- 1 if the trail from x passes z within m steps, else 0
  unfoldable pub passes_in : ℕ → ℕ → ℕ → ℕ
  unfolding flows_at next_at
  passes_in zero x z = cond (x == z) 1 0
  passes_in (suc m) x z = cond (x == z) 1 (cond (flows_at x) (passes_in m (next_at x) z) 0)

  -- Flow count: the number of valid cells whose trail passes the cell, itself included.
  unfoldable pub count_at : ℕ → ℕ
  unfolding sum_to when mapped_at passes_in
  count_at z = sum_to (rows * cols) (λ x. when (mapped_at x) (passes_in (rows * cols) x z))

  -- A NoData cell has count 0.
  unfoldable pub counts_of : List ℕ
  unfolding tab when mapped_at count_at
  counts_of = tab (rows * cols) (λ z. when (mapped_at z) (count_at z))

  -- the longest trail, in steps between cells; an empty map has 0
  unfoldable pub longest_of : ℕ
  unfolding greatest_to when mapped_at steps_in
  longest_of = greatest_to (rows * cols) (λ x. when (mapped_at x) (steps_in (rows * cols) x))

  -- ---- inflows

  -- the neighbour at the bearing k of z points at z
  unfoldable pub into_at : ℕ → ℕ → Bool
  unfolding neighbour flows_at next_at
  into_at z k = flows_at (neighbour rows cols z k) && next_at (neighbour rows cols z k) == z
