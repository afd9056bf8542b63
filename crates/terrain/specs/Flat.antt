-- RULES 4.4: lower neighbours, and the steps of cells that have none: Any other cell with no lower neighbour counts the fewest steps, over valid cells of its own
-- filled height, to a cell with a lower neighbour or to a rim cell. Over filled levels. Assumes nothing.
use Rattle.std.specs.Prelude.{◌≡◌, ℕ, zero, suc, ◌+◌, ◌*◌, ◌<◌, min, Bool, false, cond, not, ◌&&◌, ◌||◌, List, ◌==◌, nat_lt, slice_index}
use Rattle.laws.specs.First.{some_of}
use Rattle.laws.specs.Settle.{Lowering, settled_of}
use Rattle.terrain.specs.Cells.{neighbour, valid_at, rim_at}

-- more steps than any flat has
abbrev pub far_steps : ℕ
far_steps = 2000000

module _ (rows cols : ℕ) (lv : List ℕ) where
  -- A lower neighbour is a valid one of lower filled height: at the bearing k of x there is one
  abbrev pub lower_at : ℕ → ℕ → Bool
  lower_at x k = nat_lt 0 (slice_index lv (neighbour rows cols x k)) && nat_lt (slice_index lv (neighbour rows cols x k)) (slice_index lv x)

  -- x has a lower neighbour
  unfoldable pub has_lower : ℕ → Bool
  unfolding neighbour some_of
  has_lower x = some_of (lower_at x) 8

  -- a valid cell that has no lower neighbour and is no rim cell
  unfoldable pub flat_at : ℕ → Bool
  unfolding has_lower rim_at
  flat_at x = valid_at lv x && not (has_lower x || rim_at rows cols lv x)

  -- what x sees at the bearing k: the steps of a neighbour of its own level
  abbrev pub seen_at : List ℕ → ℕ → ℕ → ℕ
  seen_at d x k = cond (slice_index lv (neighbour rows cols x k) == slice_index lv x) (slice_index d (neighbour rows cols x k)) far_steps

  -- the fewest at the first k bearings
  unfoldable pub nearest_of : List ℕ → ℕ → ℕ → ℕ
  unfolding neighbour
  nearest_of d x zero = far_steps
  nearest_of d x (suc k) = min (nearest_of d x k) (seen_at d x k)

  -- a flat cell is one step further than the nearest neighbour of its level; any other cell has 0 steps
  abbrev pub flat_stepping : Lowering
  flat_stepping = record { size = rows * cols; far = far_steps; active = flat_at; offer = λ d x. nearest_of d x 8 + 1 }

  unfoldable pub flat_steps : List ℕ
  unfolding settled_of flat_at nearest_of
  flat_steps = settled_of flat_stepping

  -- a walk over cells of one level to a cell that is not flat
  pub data Walk : ℕ → Type 0 where
    there : (x : ℕ) → 0 < slice_index lv x → flat_at x ≡ false → Walk x
    on : (x k : ℕ) → 0 < slice_index lv x → k < 8 → slice_index lv (neighbour rows cols x k) ≡ slice_index lv x → Walk (neighbour rows cols x k) → Walk x

  abbrev pub walked : {x : ℕ} → Walk x → ℕ
  walked (there x v h) = 0
  walked (on x k v h e w) = suc (walked w)
