-- Inflows: the neighbours of a cell that point at it are all the cells that do. Assumes nothing.
use Rattle.std.proofs.Common.{◌≡◌, ℕ, ◌*◌, ◌<◌, ◌≤◌, true, ◌&&◌, eqb, List, get_or, sym, ap, ◌∙◌, ap₂, ⊎_elim, arith, eq-eqb, ne_eqb, eqb-true}
use native.Mathlib.Decide.{dec_lt}
use Rattle.laws.specs.Sums.{sum_to, greatest_to, when}
use Rattle.laws.proofs.Tests.{two, and_both}
use Rattle.laws.proofs.Sums.{sum-le, sum-swap, sum_ones, sum-ge, sum_one, sum-zero, greatest-ge, greatest-le, when-yes, when-no, when-under}
use Rattle.terrain.specs.Cells.{neighbour, bearing_of}
use Rattle.terrain.specs.Trail.{flows_at, next_at, steps_in, into_at, receiver_of}
use Rattle.terrain.specs.InnerTrail.{Drawn, Directed}
use Rattle.terrain.proofs.Neighbours.{across, across-small, neighbour-back}
use Rattle.terrain.proofs.Trails.{code-next, flows-code, flows-mapped, receiver-flows, receiver-points}
use Rattle.terrain.proofs.Receivers.{pointing}

-- ---- the neighbour at the bearing k of z

module _ (rows cols : ℕ) (dir : List ℕ) (z k : ℕ) where
  abbrev y : ℕ
  y = neighbour rows cols z k

  pub into-flows : into_at rows cols dir z k ≡ true → (flows_at rows cols dir (neighbour rows cols z k) ≡ true) × (next_at rows cols dir (neighbour rows cols z k) ≡ z)
  unfolding into_at
  into-flows e = let w = and_both (flows_at rows cols dir y) (eqb (next_at rows cols dir y) z) e in (w.0, eqb-true (next_at rows cols dir y) z w.1)

  flows-into : flows_at rows cols dir y ≡ true → next_at rows cols dir y ≡ z → into_at rows cols dir z k ≡ true
  unfolding into_at
  flows-into q e = ap₂ ◌&&◌ q (eq-eqb (next_at rows cols dir y) z e)

-- ---- the cells that point at z

module _ {rows cols : ℕ} {dir : List ℕ} (d : Drawn rows cols dir) where
  abbrev n : ℕ
  n = rows * cols

  abbrev nb : ℕ → ℕ → ℕ
  nb = neighbour rows cols

  abbrev recv : ℕ → ℕ
  recv = receiver_of rows cols dir

  pub into-points : (z k : ℕ) → into_at rows cols dir z k ≡ true → (neighbour rows cols z k < rows * cols) × (receiver_of rows cols dir (neighbour rows cols z k) ≡ z)
  into-points z k e =
      let w = into-flows rows cols dir z k e in
      ((pointing d).within (nb z k) (flows-mapped rows cols dir (nb z k) w.0), receiver-flows rows cols dir (nb z k) w.0 ∙ w.1)

  -- a cell that points at z is a neighbour of it
  pub points-into : (z x : ℕ) → z < rows * cols → receiver_of rows cols dir x ≡ z → (k : ℕ) × (k < 8) × (neighbour rows cols z k ≡ x) × (into_at rows cols dir z k ≡ true)
  points-into z x h e =
      let q = receiver-points rows cols dir x (omega arith) in
      let c = flows-code rows cols dir x q in
      let j = bearing_of (get_or dir x 255) in
      let on : next_at rows cols dir x ≡ z = sym (receiver-flows rows cols dir x q) ∙ e in
      let there : nb x j ≡ z = sym (code-next rows cols dir x j c.0 c.1) ∙ on in
      let i = (pointing d).within x (flows-mapped rows cols dir x q) in
      let back : nb z (across j) ≡ x = ap (λ (u : ℕ). nb u (across j)) (sym there) ∙ neighbour-back rows cols x j i c.0 (omega (arith, there)) in
      (across j, across-small j c.0, back, flows-into rows cols dir z (across j) (ap (flows_at rows cols dir) back ∙ q) (ap (next_at rows cols dir) back ∙ on))

  module _ {z : ℕ} (h : z < rows * cols) where
    -- what inflows bring, by the bearings of z and by the cells
    abbrev across-bearing : (ℕ → ℕ) → ℕ → ℕ
    across-bearing g k = when (into_at rows cols dir z k) (g (nb z k))

    abbrev from_cell : (ℕ → ℕ) → ℕ → ℕ
    from_cell g x = when (eqb (recv x) z) (g x)

    -- no more than eight cells point at one
    pub inflow-few : (m : ℕ) → sum_to m (λ x. when (eqb (receiver_of rows cols dir x) z) 1) ≤ 8
    inflow-few m =
        omega (
          arith,
          sum-le m (λ x. when (eqb (recv x) z) 1) (λ x. sum_to 8 (λ k. when (eqb (nb z k) x) 1)) (λ x l. each x),
          sum-swap m 8 (λ x k. when (eqb (nb z k) x) 1),
          sum_ones 8 (λ k. sum_to m (λ x. when (eqb (nb z k) x) 1)) (λ k l. once k),
        )
      where
        each : (x : ℕ) → when (eqb (recv x) z) 1 ≤ sum_to 8 (λ k. when (eqb (nb z k) x) 1)
        each x =
            ⊎_elim (λ e. let w = points-into z x h (eqb-true (recv x) z e) in omega (arith, when-yes 1 e, sum-ge 8 (λ k. when (eqb (nb z k) x) 1) w.0 w.1, when-yes 1 (eq-eqb (nb z w.0) x w.2)))
            (λ e. omega (arith, when-no 1 e)) (two (eqb (recv x) z))

        once : (k : ℕ) → sum_to m (λ x. when (eqb (nb z k) x) 1) ≤ 1
        once k =
            elim (dec_lt (nb z k) m) [
              | yes l ↦ omega (arith, sum_one m (λ x. when (eqb (nb z k) x) 1) (nb z k) l (λ x g d. when-no 1 (ne_eqb (nb z k) x (λ e. d (sym e)))), when-under (eqb (nb z k) (nb z k)) 1)
              | no f ↦ omega (arith, sum-zero m (λ x. when (eqb (nb z k) x) 1) (λ x g. when-no 1 (ne_eqb (nb z k) x (λ e. omega arith))))
            ]

    pub inflow-greatest : (g : ℕ → ℕ) → greatest_to 8 (λ k. when (into_at rows cols dir z k) (g (neighbour rows cols z k))) ≡ greatest_to (rows * cols) (λ x. when (eqb (receiver_of rows cols dir x) z) (g x))
    inflow-greatest g = omega (arith, greatest-le 8 (across-bearing g) (greatest_to n (from_cell g)) (λ k l. bearing k), greatest-le n (from_cell g) (greatest_to 8 (across-bearing g)) (λ x l. cell x))
      where
        bearing : (k : ℕ) → across-bearing g k ≤ greatest_to n (from_cell g)
        bearing k =
            ⊎_elim (λ e. let w = into-points z k e in omega (arith, when-yes (g (nb z k)) e, when-yes (g (nb z k)) (eq-eqb (recv (nb z k)) z w.1), greatest-ge n (from_cell g) (nb z k) w.0))
            (λ e. omega (arith, when-no (g (nb z k)) e)) (two (into_at rows cols dir z k))

        cell : (x : ℕ) → from_cell g x ≤ greatest_to 8 (across-bearing g)
        cell x =
            ⊎_elim (λ e. let w = points-into z x h (eqb-true (recv x) z e) in omega (arith, when-yes (g x) e, ap g w.2, when-yes (g (nb z w.0)) w.3, greatest-ge 8 (across-bearing g) w.0 w.1))
            (λ e. omega (arith, when-no (g x) e)) (two (eqb (recv x) z))

-- an inflow is further from the end of its trail
pub into-above : {rows cols : ℕ} {dir : List ℕ} → Directed rows cols dir → (z k : ℕ) → into_at rows cols dir z k ≡ true → steps_in rows cols dir (rows * cols) z < steps_in rows cols dir (rows * cols) (neighbour rows cols z k)
into-above {rows} {cols} {dir} d z k e = let w = into-flows rows cols dir z k e in omega (arith, d.less (neighbour rows cols z k) w.0, ap (steps_in rows cols dir (rows * cols)) w.1)
