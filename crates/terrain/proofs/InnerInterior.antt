-- Laws of cells that have all eight neighbours, and of where a neighbour lies. Assumes nothing.
use Rattle.std.proofs.Common.{◌≡◌, ℕ, ◌+◌, ◌-◌, ◌*◌, ◌/◌, ◌%◌, ◌<◌, ◌≤◌, List, [], ◌∷◌, get_or, ℤ, sym, ap, ◌∙◌, ⊎_elim, mul-le-mul_right, mod-lt, suc-mul, add-mul, div-add-mod', arith}
use native.Mathlib.Decide.{dec_lt}
use Rattle.terrain.specs.Cells.{row_steps, col_steps, neighbour, Shifts}
use Rattle.terrain.specs.InnerCells.{Ready, Sized, Inside, RunsTo, beside_of, Beside}
use Rattle.terrain.proofs.Neighbours.{each-bearing, row-step-le, col-step-le, cell_in, in-grid-lt, row_of, col-of, neighbour-cases}

pub ready-sized : {rows cols : ℕ} {elevation : List ℤ} → Ready rows cols elevation → Sized rows cols
ready-sized r = record { rows-small = r.rows-small; cols-small = r.cols-small; cols-some = r.cols-some; small = r.small }

-- ---- a place, four times the row step plus the column step

pub place-row : (k place : ℕ) → k < 8 → place ≡ get_or row_steps k 0 * 4 + get_or col_steps k 0 → place / 4 ≡ get_or row_steps k 0
place-row k place h e = ap (λ (p : ℕ). p / 4) e ∙ row_of 4 (get_or row_steps k 0) (get_or col_steps k 0) (omega (arith, col-step-le k h))

pub place-col : (k place : ℕ) → k < 8 → place ≡ get_or row_steps k 0 * 4 + get_or col_steps k 0 → place % 4 ≡ get_or col_steps k 0
place-col k place h e = ap (λ (p : ℕ). p % 4) e ∙ col-of 4 (get_or row_steps k 0) (get_or col_steps k 0) (omega (arith, col-step-le k h))

-- the steps that lead beside a cell, as the code works them out
pub record Placed (cols k place : ℕ) : Type 0 where
  pub down : place / 4 * cols ≡ get_or row_steps k 0 * cols
  pub down-few : get_or row_steps k 0 * cols ≤ 2048
  pub right : place % 4 ≡ get_or col_steps k 0
  pub right-few : get_or col_steps k 0 ≤ 2

pub placed_at : {cols k : ℕ} → cols ≤ 1024 → k < 8 → (place : ℕ) → place ≡ get_or row_steps k 0 * 4 + get_or col_steps k 0 → Placed cols k place
placed_at {cols} {k} small h place e =
    record {
      down = ap (λ (r : ℕ). r * cols) (place-row k place h e);
      down-few = omega (arith, mul-le-mul_right cols (row-step-le k h));
      right = place-col k place h e;
      right-few = col-step-le k h;
    }

pub placed : {cols x k : ℕ} → Beside cols x k → (place : ℕ) → place ≡ get_or row_steps k 0 * 4 + get_or col_steps k 0 → Placed cols k place
placed b place e = placed_at b.cols-small b.bearing-small place e

-- ---- the shifts

-- two rows and two columns at most
pub shift-few : {cols x k : ℕ} → Beside cols x k → get_or row_steps k 0 * cols + get_or col_steps k 0 ≤ 2050
shift-few {cols} {x} {k} b = omega (arith, mul-le-mul_right cols (row-step-le k b.bearing-small), col-step-le k b.bearing-small, b.cols-small)

-- as the code works them out
pub shifts-are : (cols : ℕ) → Shifts cols ((cols + 2) ∷ (cols + cols + 2) ∷ (cols + cols + 1) ∷ (cols + cols) ∷ cols ∷ 0 ∷ 1 ∷ 2 ∷ [])
shifts-are cols =
    record {
      steps = each-bearing (λ k. get_or ((cols + 2) ∷ (cols + cols + 2) ∷ (cols + cols + 1) ∷ (cols + cols) ∷ cols ∷ 0 ∷ 1 ∷ 2 ∷ []) k 0 ≡ get_or row_steps k 0 * cols + get_or col_steps k 0)
          (omega arith) (omega arith) (omega arith) (omega arith) (omega arith) (omega arith) (omega arith) (omega arith);
    }

-- ---- where a neighbour lies

-- a row of cells on, or back, in the index
rows_on : (cols q r : ℕ) → 1 ≤ q + r → (q + r - 1) * cols + cols ≡ q * cols + r * cols
rows_on cols q r h = sym (suc-mul (q + r - 1) cols) ∙ ap (λ (n : ℕ). n * cols) (omega arith) ∙ add-mul q r cols

module _ (rows cols : ℕ) where
  -- an index by its row and column
  pub by_row : (x : ℕ) → x ≡ x / cols * cols + x % cols
  by_row x = sym (div-add-mod' x cols)

  lies : (x k : ℕ) → neighbour rows cols x k < rows * cols → (cols + 1 ≤ x + get_or row_steps k 0 * cols + get_or col_steps k 0) × (neighbour rows cols x k + cols + 1 ≡ x + get_or row_steps k 0 * cols + get_or col_steps k 0)
  lies x k h =
      ⊎_elim (λ e. absurd (omega arith))
      (λ i. let e : neighbour rows cols x k + cols + 1 ≡ x + get_or row_steps k 0 * cols + get_or col_steps k 0 = omega (arith, i.is, i.left, rows_on cols (x / cols) (get_or row_steps k 0) i.up, by_row x) in (omega arith, e))
      (neighbour-cases rows cols x k)

  -- a neighbour that is a cell of the grid lies there
  pub beside-is : (x k : ℕ) → neighbour rows cols x k < rows * cols → beside_of cols x k ≡ neighbour rows cols x k
  unfolding beside_of
  beside-is x k h = omega (arith, (lies x k h).1)

  -- and there is room for it
  pub beside-room : (x k : ℕ) → Sized rows cols → x < 1048576 → k < 8 → neighbour rows cols x k < rows * cols → Beside cols x k
  beside-room x k s l h n = record { cols-small = s.cols-small; cell-small = l; bearing-small = h; room = (lies x k n).0 }

  -- ---- cells that are inside

  -- a row that begins below another's begin is an earlier one
  row_lt : (p q : ℕ) → p * cols < q * cols → p < q
  row_lt p q h = elim (dec_lt p q) [ yes l ↦ l | no f ↦ absurd (omega (arith, mul-le-mul_right {m = q} {n = p} cols (omega arith))) ]

  inside-down : (x : ℕ) → Inside rows cols x → x / cols + 1 < rows
  inside-down x i = row_lt (x / cols + 1) rows (omega (arith, by_row x, i.down))

  inside-up : (x : ℕ) → Inside rows cols x → 1 ≤ x / cols
  inside-up x i = row_lt 0 (x / cols) (omega (arith, by_row x, i.up, mod-lt x {m = cols} (omega (arith, i.right))))

  -- every neighbour of a cell that is inside is a cell of the grid
  pub inside-neighbour : (x k : ℕ) → Inside rows cols x → k < 8 → neighbour rows cols x k < rows * cols
  unfolding neighbour
  inside-neighbour x k i h =
      in-grid-lt rows cols (x / cols + get_or row_steps k 0) (x % cols + get_or col_steps k 0) (neighbour rows cols x k)
      (record { up = up; down = down; left = left; right = right; is = cell_in rows cols _ _ up down left right })
    where
      up : 1 ≤ x / cols + get_or row_steps k 0
      up = omega (arith, inside-up x i)

      down : x / cols + get_or row_steps k 0 ≤ rows
      down = omega (arith, inside-down x i, row-step-le k h)

      left : 1 ≤ x % cols + get_or col_steps k 0
      left = omega (arith, i.left)

      right : x % cols + get_or col_steps k 0 ≤ cols
      right = omega (arith, i.right, col-step-le k h)

  pub inside-beside : (x k : ℕ) → Sized rows cols → Inside rows cols x → k < 8 → Beside cols x k
  inside-beside x k s i h = beside-room x k s (omega (arith, s.small, i.down)) h (inside-neighbour x k i h)

  pub inside_is : (x k : ℕ) → Inside rows cols x → k < 8 → beside_of cols x k ≡ neighbour rows cols x k
  inside_is x k i h = beside-is x k (inside-neighbour x k i h)

  pub inside-lt : (x k y : ℕ) → Inside rows cols x → k < 8 → y ≡ beside_of cols x k → y < rows * cols
  inside-lt x k y i h e = omega (arith, inside_is x k i h, inside-neighbour x k i h)

  -- the cells from one that is inside up to the last of its row are inside
  pub run_inside : (x : ℕ) → Inside rows cols x → RunsTo rows cols x (x + cols - 1 - x % cols)
  run_inside x i =
      record {
        from = omega (arith, i.right);
        within = omega (arith, by_row x, below);
        inside = inner;
      }
    where
      below : (x / cols + 2) * cols ≤ rows * cols
      below = mul-le-mul_right cols (omega (arith, inside-down x i))

      inner : (y : ℕ) → x ≤ y → y < x + cols - 1 - x % cols → Inside rows cols y
      inner y l h =
          let c : x % cols + (y - x) < cols = omega arith in
          let e : y % cols ≡ x % cols + (y - x) = ap (λ (z : ℕ). z % cols) (omega (arith, by_row x)) ∙ col-of cols (x / cols) (x % cols + (y - x)) c in
          record { up = omega (arith, i.up); down = omega (arith, by_row x, below); left = omega (arith, i.left); right = omega arith }
