-- Steps over flats on the way, as the functions of `flat` leave them: only inner functions cite this file. A cell whose steps were lowered waits in a queue until its neighbours are
-- reached from it; unless the queue is full, every other cell is calm. Assumes nothing.
use Rattle.std.specs.Prelude.{◌≡◌, ℕ, ◌+◌, ◌*◌, ◌<◌, ◌≤◌, true, ◌⊎◌, List, length, ℤ, pos, ◌≢◌, slice_index, slice_index_or, slice_set}
use Rattle.laws.specs.Settle.{Kept, Still}
use Rattle.terrain.specs.Cells.{neighbour}
use Rattle.terrain.specs.Flat.{far_steps, flat_at, nearest_of, flat_stepping, Walk, walked}

module _ (rows cols : ℕ) (lv : List ℕ) where
  -- a walk from x has at most v steps: what every lowering of x to v has to show
  abbrev pub Within : ℕ → ℕ → Type 0
  Within x v = (w : Walk rows cols lv x) × (walked rows cols lv w ≤ v)

  -- steps on the way, each shown by a walk; and steps that no offer lowers
  abbrev pub StepsKept : List ℕ → Type 0
  StepsKept = Kept (flat_stepping rows cols lv) Within

  abbrev pub StepsStill : List ℕ → Type 0
  StepsStill = Still (flat_stepping rows cols lv)

-- the steps of the cell y set to n, and the cell added to a queue of `end` entries, if that has room: the steps, the queue and its entries afterwards
pub data Put (d₀ : List ℕ) (q₀ : List ℤ) (end n y : ℕ) : List ℕ → List ℤ → ℕ → Type 0 where
  queued : end < length q₀ → Put d₀ q₀ end n y (slice_set d₀ y n) (slice_set q₀ end (pos y)) (end + 1)
  dropped : length q₀ ≤ end → Put d₀ q₀ end n y (slice_set d₀ y n) q₀ end

-- the cell y reached at n steps: nothing changes if it has no more
pub data Reached (d₀ : List ℕ) (q₀ : List ℤ) (end n y : ℕ) : List ℕ → List ℤ → ℕ → Type 0 where
  near : slice_index_or d₀ y 0 ≤ n → Reached d₀ q₀ end n y d₀ q₀ end
  lowered : {d : List ℕ} {q : List ℤ} {e : ℕ} → n < slice_index d₀ y → Put d₀ q₀ end n y d q e → Reached d₀ q₀ end n y d q e

-- the cell x stands in the queue at a place from `from` up to `to`
pub record Waits (q : List ℤ) (from to x : ℕ) : Type 0 where
  pub place : ℕ
  pub after : from ≤ place
  pub before : place < to
  pub is : slice_index_or q place (pos 0) ≡ pos x

module _ (rows cols : ℕ) (lv : List ℕ) where
  -- no neighbour of x on its level is more than one step further
  abbrev pub Calm : List ℕ → ℕ → Type 0
  Calm d x = (k : ℕ) → k < 8 → slice_index lv (neighbour rows cols x k) ≡ slice_index lv x → slice_index d (neighbour rows cols x k) ≤ slice_index d x + 1

  -- the cells below x that are one step from where their flats end are queued
  pub record Shores (d : List ℕ) (q : List ℤ) (end x : ℕ) : Type 0 where
    pub kept : StepsKept rows cols lv d
    pub fits : end ≤ length q
    pub few : (z : ℕ) → (slice_index d z ≤ 1) ⊎ (slice_index d z ≡ far_steps)
    pub due : end < length q → (z : ℕ) → slice_index d z ≡ 1 → Waits q 0 end z
    pub passed : (z : ℕ) → z < x → (slice_index d z ≤ 1) ⊎ (0 < nearest_of rows cols lv d z 8)

  -- the queue's entries from `from` up to `end` wait, and the cell x is in hand
  pub record Wading (d : List ℕ) (q : List ℤ) (from end x : ℕ) : Type 0 where
    pub kept : StepsKept rows cols lv d
    pub begun : from ≤ end
    pub fits : end ≤ length q
    pub shore : (z : ℕ) → z < rows * cols → slice_index d z ≡ 0 → Calm d z
    pub due : end < length q → (z : ℕ) → 0 < slice_index d z → (z ≢ x) → Waits q from end z ⊎ Calm d z

  -- the neighbours of a flat cell x at the first k bearings reached at n steps
  pub record Spreading (d : List ℕ) (q : List ℤ) (from end n x k : ℕ) : Type 0 where
    pub wading : Wading d q from end x
    pub flat : flat_at rows cols lv x ≡ true
    pub own : n ≡ slice_index d x + 1
    pub reached : (j : ℕ) → j < k → slice_index lv (neighbour rows cols x j) ≡ slice_index lv x → slice_index d (neighbour rows cols x j) ≤ n

  -- the steps in the end, the queue having room for `room` and e entries
  pub record Waded (d : List ℕ) (room e : ℕ) : Type 0 where
    pub kept : StepsKept rows cols lv d
    pub still : e < room → StepsStill rows cols lv d
