-- The cells of trails, noted from the ends of trails up: one more than those of the cell that a cell points at. The longest trail is the most of them. Assumes nothing.
use Rattle.std.proofs.Common.{◌≡◌, ℕ, ◌+◌, ◌-◌, ◌*◌, ◌<◌, ◌≤◌, max, Bool, true, false, List, length, get_or, set, sym, ap, ◌∙◌, ⊎_elim, arith, length-set, get_or-set_other, get_or-set_same}
use native.Mathlib.Decide.{dec_lt, ℕ_discrete}
use lib.ListN.{get_or-eq_default}
use Rattle.laws.specs.Sums.{greatest_to, when}
use Rattle.laws.proofs.Tests.{two}
use Rattle.laws.proofs.Sums.{greatest-ge, greatest-le, greatest-less, when-yes, when-no}
use Rattle.laws.proofs.Orders.{order-cell, order-every, order-before}
use Rattle.terrain.specs.Trail.{mapped_at, flows_at, next_at, steps_in, longest_of, receiver_of}
use Rattle.terrain.specs.InnerTrail.{Directed}
use Rattle.terrain.specs.Downhill.{Downhill}
use Rattle.terrain.proofs.Trails.{mapped-none, steps-end, steps-below, rank-next, receiver-flows, receiver-stops}
use Rattle.terrain.proofs.Receivers.{directed-falls, pointing}

-- ---- the longest

-- the cells of the trail from x; 0 for NoData
unfoldable pub cells_of : ℕ → ℕ → List ℕ → ℕ → ℕ
cells_of rows cols dir x = when (mapped_at rows cols dir x) (steps_in rows cols dir (rows * cols) x + 1)

-- the steps of the longest trail are one less than its cells; an empty map has 0
longest-cells : (rows cols : ℕ) (dir : List ℕ) → greatest_to (rows * cols) (cells_of rows cols dir) - 1 ≡ longest_of rows cols dir
unfolding cells_of longest_of
longest-cells rows cols dir = greatest-less (rows * cols) (mapped_at rows cols dir) (steps_in rows cols dir (rows * cols))

-- the cells of the trails from the places on, from p, and the most of them
pub record Backing (rows cols : ℕ) (dir order : List ℕ) (m : ℕ) (known : List ℕ) (p most : ℕ) : Type 0 where
  pub long : length known ≡ rows * cols
  pub right : (i : ℕ) → p ≤ i → i < m → get_or known (get_or order i 0) 0 ≡ cells_of rows cols dir (get_or order i 0)
  pub under : most ≤ greatest_to (rows * cols) (cells_of rows cols dir)
  pub over : (i : ℕ) → p ≤ i → i < m → cells_of rows cols dir (get_or order i 0) ≤ most

module _ {rows cols : ℕ} {dir : List ℕ} (d : Directed rows cols dir) where
  abbrev n : ℕ
  n = rows * cols

  abbrev valid : ℕ → Bool
  valid = mapped_at rows cols dir

  abbrev recv : ℕ → ℕ
  recv = receiver_of rows cols dir

  abbrev rank : ℕ → ℕ
  rank = steps_in rows cols dir (rows * cols)

  -- ---- the cells of a trail

  cells-mapped : (x : ℕ) → valid x ≡ true → cells_of rows cols dir x ≡ rank x + 1
  unfolding cells_of
  cells-mapped x v = when-yes (rank x + 1) v

  cells-none : (x : ℕ) → valid x ≡ false → cells_of rows cols dir x ≡ 0
  unfolding cells_of
  cells-none x v = when-no (rank x + 1) v

  cells-off : (x : ℕ) → rows * cols ≤ x → cells_of rows cols dir x ≡ 0
  cells-off x h = cells-none x (mapped-none rows cols dir x (get_or-eq_default dir 255 {n = x} (omega (arith, d.drawn.long))))

  cells-small : (x : ℕ) → cells_of rows cols dir x ≤ rows * cols
  cells-small x = ⊎_elim (λ v. omega (arith, cells-mapped x v, steps-below rows cols dir rank (directed-falls d) (rows * cols) x v)) (λ v. omega (arith, cells-none x v)) (two (valid x))

  -- one more than those of the cell that x points at
  cells-next : (x : ℕ) → valid x ≡ true → cells_of rows cols dir x ≡ cells_of rows cols dir (receiver_of rows cols dir x) + 1
  cells-next x v =
      ⊎_elim
      (λ q. omega (arith, cells-mapped x v, rank-next rows cols dir rank (directed-falls d) x q, cells-mapped (next_at rows cols dir x) (d.drawn.stays x q), ap (cells_of rows cols dir) (receiver-flows rows cols dir x q)))
      (λ q. omega (arith, cells-mapped x v, steps-end rows cols dir (rows * cols) x q, cells-off (receiver_of rows cols dir x) (omega (arith, receiver-stops rows cols dir x q)))) (two (flows_at rows cols dir x))

  -- ---- along the order, backwards

  module _ {order : List ℕ} {m : ℕ} (o : Downhill rows cols dir order m) where
    pub back_start : {known : List ℕ} → length known ≡ rows * cols → Backing rows cols dir order m known m 0
    back_start h = record { long = h; right = (λ i a b. absurd (omega arith)); under = omega arith; over = (λ i a b. absurd (omega arith)) }

    module _ {known : List ℕ} {p most x y v : ℕ} (s : Backing rows cols dir order m known p most) (h : 0 < p) (k : p ≤ m) (e : x ≡ get_or order (p - 1) 0) (q : y ≡ receiver_of rows cols dir x) (g : v ≡ get_or known y 0) where
      here-valid : valid x ≡ true
      here-valid = ap valid e ∙ order-cell o.cells (p - 1) (omega arith)

      next_known : v ≡ cells_of rows cols dir y
      next_known =
          elim (dec_lt y n) [
            | yes l ↦ (let w = order-every o.cells y (ap valid q ∙ (pointing d.drawn).stays x (omega arith)) in
                let b = order-before o.cells (p - 1) w.0 (omega arith) w.1 (ap recv (sym e) ∙ sym q ∙ sym w.2) in
                g ∙ ap (λ (z : ℕ). get_or known z 0) (sym w.2) ∙ s.right w.0 (omega arith) w.1 ∙ ap (cells_of rows cols dir) w.2)
            | no f ↦ g ∙ get_or-eq_default known 0 {n = y} (omega (arith, s.long)) ∙ sym (cells-off y (omega arith))
          ]

      back-cells : v + 1 ≡ cells_of rows cols dir x
      back-cells = omega (arith, next_known, ap (cells_of rows cols dir) q, cells-next x here-valid)

      pub back-small : v + 1 ≤ rows * cols
      back-small = omega (arith, back-cells, cells-small x)

      pub back_more : {top : ℕ} → top ≡ max most (v + 1) → Backing rows cols dir order m (set known x (v + 1)) (p - 1) top
      back_more {top} t =
          record {
            long = length-set known x (v + 1) ∙ s.long;
            right = right;
            under = omega (arith, t, s.under, back-cells, greatest-ge n (cells_of rows cols dir) x ((pointing d.drawn).within x here-valid));
            over = (λ i a b. elim (ℕ_discrete i (p - 1)) [ yes z ↦ omega (arith, t, back-cells, ap (cells_of rows cols dir) (e ∙ ap (λ (j : ℕ). get_or order j 0) (sym z))) | no f ↦ omega (arith, t, s.over i (omega arith) b) ]);
          }
        where
          right : (i : ℕ) → p - 1 ≤ i → i < m → get_or (set known x (v + 1)) (get_or order i 0) 0 ≡ cells_of rows cols dir (get_or order i 0)
          right i a b =
              elim (ℕ_discrete (get_or order i 0) x) [
                | yes z ↦ ap (λ (j : ℕ). get_or (set known x (v + 1)) j 0) z ∙ get_or-set_same known x (v + 1) 0 (omega (arith, s.long, (pointing d.drawn).within x here-valid)) ∙ back-cells ∙ ap (cells_of rows cols dir) (sym z)
                | no f ↦ get_or-set_other known x (get_or order i 0) (v + 1) 0 f ∙ s.right i (elim (ℕ_discrete i (p - 1)) [ yes z ↦ absurd (f (ap (λ (j : ℕ). get_or order j 0) z ∙ sym e)) | no u ↦ omega arith ]) b
              ]

    pub back-all : {known : List ℕ} {p most : ℕ} → p ≡ 0 → Backing rows cols dir order m known p most → most - 1 ≡ longest_of rows cols dir
    back-all {known} {p} {most} e s = omega (arith, longest-cells rows cols dir, s.under, greatest-le n (cells_of rows cols dir) most (λ x h. ⊎_elim (seen x) (λ v. omega (arith, cells-none x v)) (two (valid x))))
      where
        seen : (x : ℕ) → valid x ≡ true → cells_of rows cols dir x ≤ most
        seen x v = let w = order-every o.cells x v in omega (arith, s.over w.0 (omega arith) w.1, ap (cells_of rows cols dir) w.2)
