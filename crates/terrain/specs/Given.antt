-- RULES 4.7: directions drawn by someone else. A given grid is accepted exactly if every cell of it keeps the five rules below, and no cell lies on a ring. Over filled
-- levels; a code is read as 255 past the end of the grid. Assumes nothing.
use Rattle.std.specs.Prelude.{ℕ, ◌*◌, Bool, not, ◌&&◌, ◌||◌, List, [], ◌∷◌, ◌==◌, nat_le, nat_lt, slice_index, slice_index_or}
use Rattle.laws.specs.First.{first_of}
use Rattle.laws.specs.Tests.{Test, test}
use Rattle.terrain.specs.Cells.{valid_at, rim_at}
use Rattle.terrain.specs.Trail.{flows_at, next_at, passes_in}

module _ (rows cols : ℕ) (lv dir : List ℕ) where
  -- ---- the rules of refusal 17, for one cell

  -- every NoData cell has 255
  abbrev pub no_data_kept : ℕ → Bool
  no_data_kept x = valid_at lv x || slice_index_or dir x 255 == 255

  -- every other code is one of the nine: it points at a neighbour, or is 0
  abbrev pub nine_kept : ℕ → Bool
  nine_kept x = not (valid_at lv x) || (flows_at rows cols dir x || slice_index_or dir x 255 == 0)

  -- no code points off the grid or at NoData
  abbrev pub aim_kept : ℕ → Bool
  aim_kept x = not (flows_at rows cols dir x) || valid_at lv (next_at rows cols dir x)

  -- none points to a higher filled cell
  abbrev pub fall_kept : ℕ → Bool
  fall_kept x = not (flows_at rows cols dir x) || nat_le (slice_index lv (next_at rows cols dir x)) (slice_index lv x)

  -- 0 stands only on rim cells
  abbrev pub rim_kept : ℕ → Bool
  rim_kept x = not (slice_index_or dir x 255 == 0) || rim_at rows cols lv x

  -- the code of x breaks none of them
  unfoldable pub kept_at : ℕ → Bool
  unfolding flows_at next_at rim_at
  kept_at x = no_data_kept x && (nine_kept x && (aim_kept x && (fall_kept x && rim_kept x)))

  -- the first cell whose code breaks one; rows * cols where there is none
  unfoldable pub first_broken : ℕ
  unfolding first_of kept_at
  first_broken = first_of (λ x. not (kept_at x)) (rows * cols)

module _ (rows cols : ℕ) (dir : List ℕ) where
  -- ---- rings, for refusal 18

  -- a trail goes round from x: the trail from the cell that x points at passes x
  unfoldable pub ring_at : ℕ → Bool
  unfolding flows_at next_at passes_in
  ring_at x = flows_at rows cols dir x && passes_in rows cols dir (rows * cols) (next_at rows cols dir x) x == 1

  -- the first cell in row order on a ring; rows * cols where there is none
  unfoldable pub first_ring : ℕ
  unfolding first_of ring_at
  first_ring = first_of ring_at (rows * cols)

-- 17: a code that breaks any rule but the last; place: the first such cell
unfoldable pub code_test : ℕ → ℕ → List ℕ → List ℕ → Test
unfolding first_broken
code_test rows cols lv dir = test (not (nat_lt (first_broken rows cols lv dir) (rows * cols))) 17 (first_broken rows cols lv dir)

-- 18: a trail that goes round; place: the first cell in row order on a ring
unfoldable pub ring_test : ℕ → ℕ → List ℕ → Test
unfolding first_ring
ring_test rows cols dir = test (not (nat_lt (first_ring rows cols dir) (rows * cols))) 18 (first_ring rows cols dir)

-- the tests of a given grid, in their order
abbrev pub given_tests : ℕ → ℕ → List ℕ → List ℕ → List Test
given_tests rows cols lv dir = code_test rows cols lv dir ∷ ring_test rows cols dir ∷ []
