-- Laws of the grid's edge: which cells are on it, and that what lies around a cell is a neighbour of it or on the edge. Assumes nothing.
use Rattle.std.proofs.Common.{◌≡◌, ℕ, ◌+◌, ◌-◌, ◌*◌, ◌/◌, ◌%◌, ◌<◌, ◌≤◌, ◌⊎◌, get_or, ap, ◌∙◌, inl, inr, ⊎_elim, mul-le-mul_right, mod-lt, add-mul, arith}
use native.Mathlib.Decide.{dec_lt}
use Rattle.terrain.specs.Cells.{row_steps, col_steps, neighbour}
use Rattle.terrain.specs.InnerCells.{Sized, beside_of, Beside, Edge}
use Rattle.terrain.proofs.Neighbours.{col-of, row_of, cell_in, in-grid-lt, col-step-le, neighbour-cases}
use Rattle.terrain.proofs.InnerInterior.{by_row, beside-is}

module _ (rows cols : ℕ) where
  -- ---- the four lines of the edge

  pub edge-north : (x : ℕ) → x < cols → Edge rows cols x
  edge-north x h = record { bearing = 6; small = omega arith; none = ⊎_elim (λ e. omega arith) (λ i. absurd (omega (arith, i.up, row))) (neighbour-cases rows cols x 6) }
    where
      row : x / cols ≡ 0
      row = (let e : x ≡ 0 * cols + x = omega arith in ap (λ (n : ℕ). n / cols) e) ∙ row_of cols 0 x h

  pub edge-south : (x : ℕ) → 0 < cols → rows * cols ≤ x + cols → Edge rows cols x
  edge-south x w h = record { bearing = 2; small = omega arith; none = ⊎_elim (λ e. omega arith) (λ i. absurd (late i.down)) (neighbour-cases rows cols x 2) }
    where
      late : x / cols + 2 ≤ rows → ⊥
      late d = omega (arith, mul-le-mul_right {m = x / cols + 2} {n = rows} cols d, add-mul (x / cols) 2 cols, by_row rows cols x, mod-lt x w)

  pub edge-west : (x : ℕ) → x % cols ≡ 0 → Edge rows cols x
  edge-west x h = record { bearing = 4; small = omega arith; none = ⊎_elim (λ e. omega arith) (λ i. absurd (omega (arith, i.left))) (neighbour-cases rows cols x 4) }

  pub edge-east : (x : ℕ) → x % cols + 1 ≡ cols → Edge rows cols x
  edge-east x h = record { bearing = 0; small = omega arith; none = ⊎_elim (λ e. omega arith) (λ i. absurd (omega (arith, i.right))) (neighbour-cases rows cols x 0) }

  -- ---- what lies around a cell

  -- in another column than the bearing leads to, it is on the edge
  around-west : (x k : ℕ) → Sized rows cols → Beside cols x k → x % cols + get_or col_steps k 0 < 1 → Edge rows cols (beside_of cols x k)
  unfolding beside_of
  around-west x k s b h = edge-east (beside_of cols x k) (omega (arith, ap (λ (y : ℕ). y % cols) is ∙ col-of cols (n - 2) (cols - 1) (omega (arith, s.cols-some)), s.cols-some))
    where
      n : ℕ
      n = x / cols + get_or row_steps k 0

      sum : cols + 1 ≤ n * cols
      sum = omega (arith, b.room, by_row rows cols x, add-mul (x / cols) (get_or row_steps k 0) cols)

      two : 2 ≤ n
      two = elim (dec_lt n 2) [ yes l ↦ absurd (omega (arith, sum, mul-le-mul_right {m = n} {n = 1} cols (omega arith))) | no f ↦ omega arith ]

      is : beside_of cols x k ≡ (n - 2) * cols + (cols - 1)
      is =
          let e : n - 2 + 2 ≡ n = omega (arith, two) in
          omega (arith, s.cols-some, by_row rows cols x, add-mul (x / cols) (get_or row_steps k 0) cols, add-mul (n - 2) 2 cols, ap (λ (m : ℕ). m * cols) e)

  around-east : (x k : ℕ) → Sized rows cols → Beside cols x k → cols < x % cols + get_or col_steps k 0 → Edge rows cols (beside_of cols x k)
  unfolding beside_of
  around-east x k s b h = edge-west (beside_of cols x k) (ap (λ (y : ℕ). y % cols) is ∙ col-of cols n 0 s.cols-some)
    where
      n : ℕ
      n = x / cols + get_or row_steps k 0

      is : beside_of cols x k ≡ n * cols + 0
      is = omega (arith, mod-lt x s.cols-some, col-step-le k b.bearing-small, by_row rows cols x, add-mul (x / cols) (get_or row_steps k 0) cols)

  -- in the column that the bearing leads to, it is the neighbour
  around-straight : (x k : ℕ) → Sized rows cols → Beside cols x k → beside_of cols x k < rows * cols → 1 ≤ x % cols + get_or col_steps k 0 → x % cols + get_or col_steps k 0 ≤ cols → neighbour rows cols x k < rows * cols
  unfolding beside_of neighbour
  around-straight x k s b y left right =
      in-grid-lt rows cols n (x % cols + get_or col_steps k 0) (neighbour rows cols x k)
      (record { up = up; down = down; left = left; right = right; is = cell_in rows cols _ _ up down left right })
    where
      n : ℕ
      n = x / cols + get_or row_steps k 0

      sum : beside_of cols x k + cols + 1 ≡ n * cols + (x % cols + get_or col_steps k 0)
      sum = omega (arith, b.room, by_row rows cols x, add-mul (x / cols) (get_or row_steps k 0) cols)

      up : 1 ≤ n
      up = elim (dec_lt n 1) [ yes l ↦ absurd (omega (arith, sum, mul-le-mul_right {m = n} {n = 0} cols (omega arith))) | no f ↦ omega arith ]

      down : n ≤ rows
      down = elim (dec_lt rows n) [ yes l ↦ absurd (omega (arith, sum, mul-le-mul_right {m = rows + 1} {n = n} cols (omega arith), add-mul rows 1 cols)) | no f ↦ omega arith ]

  -- a cell around another is its neighbour, or on the edge
  pub around-cases : (x k : ℕ) → Sized rows cols → Beside cols x k → beside_of cols x k < rows * cols → (beside_of cols x k ≡ neighbour rows cols x k) ⊎ Edge rows cols (beside_of cols x k)
  around-cases x k s b y =
      elim (dec_lt (x % cols + get_or col_steps k 0) 1) [
        | yes h ↦ inr (around-west x k s b h)
        | no f ↦
            elim (dec_lt cols (x % cols + get_or col_steps k 0)) [
              | yes h ↦ inr (around-east x k s b h)
              | no g ↦ inl (beside-is rows cols x k (around-straight x k s b y (omega arith) (omega arith)))
            ]
      ]
