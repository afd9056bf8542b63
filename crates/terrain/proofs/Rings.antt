-- Rings of a grid of directions: what the definition computes is a walk that comes back, and where there is none every trail ends. Assumes nothing.
use Rattle.std.proofs.Common.{◌≡◌, ℕ, zero, suc, ◌-◌, ◌*◌, ◌<◌, ◌≤◌, Bool, true, false, ◌&&◌, eqb, List, sym, ap, ◌∙◌, ap₂, ⊎_elim, true≢false, arith, eq-eqb, eqb-true}
use native.Mathlib.Decide.{dec_lt, ℕ_discrete}
use lib.ListN.{get_or-eq_default}
use Rattle.laws.specs.Rings.{walk_to, OnRing}
use Rattle.laws.proofs.Tests.{two, and_both}
use Rattle.laws.proofs.Rings.{walk_none, walk_first, walk-join, ring-next, ring-few, long-ring, falling-ringless}
use Rattle.terrain.specs.Trail.{mapped_at, flows_at, next_at, steps_in, passes_in, receiver_of}
use Rattle.terrain.specs.Given.{ring_at}
use Rattle.terrain.specs.InnerTrail.{Drawn, Directed}
use Rattle.terrain.proofs.Trails.{mapped-is, flows-mapped, passes-self, passes-next, passes-end, passes_none, steps-none, steps-end, steps_next, steps-stay, steps-le, receiver-flows, receiver-stops, receiver-points}
use Rattle.terrain.proofs.Receivers.{pointing, falling}

module _ {rows cols : ℕ} {dir : List ℕ} (d : Drawn rows cols dir) where
  abbrev n : ℕ
  n = rows * cols

  abbrev flows : ℕ → Bool
  flows = flows_at rows cols dir

  abbrev next : ℕ → ℕ
  next = next_at rows cols dir

  abbrev recv : ℕ → ℕ
  recv = receiver_of rows cols dir

  -- ---- walks off the grid stay off it

  recv-off : (y : ℕ) → n ≤ y → recv y ≡ n
  recv-off y h =
      ⊎_elim (λ q. absurd (mapped-is rows cols dir y (flows-mapped rows cols dir y q) (get_or-eq_default dir 255 {n = y} (omega (arith, d.long))))) (λ q. receiver-stops rows cols dir y q) (two (flows y))

  walk-off : (i y : ℕ) → n ≤ y → n ≤ walk_to recv i y
  walk-off zero y h = omega (arith, walk_none recv y)
  walk-off (suc i) y h = omega (arith, walk_first recv i y, walk-off i (recv y) (omega (arith, recv-off y h)))

  -- ---- a trail passes what walks lead to

  passes-walk : (m y z : ℕ) → passes_in rows cols dir m y z ≡ 1 → (i : ℕ) × (walk_to recv i y ≡ z)
  passes-walk zero y z e = elim (ℕ_discrete y z) [ yes q ↦ (0, walk_none recv y ∙ q) | no f ↦ absurd (omega (arith, e, passes_none rows cols dir y z f)) ]
  passes-walk (suc m) y z e =
      elim (ℕ_discrete y z) [
        | yes q ↦ (0, walk_none recv y ∙ q)
        | no f ↦
            ⊎_elim
            (λ q. let w = passes-walk m (next y) z (sym (passes-next rows cols dir m y z f q) ∙ e) in (suc w.0, walk_first recv w.0 y ∙ ap (walk_to recv w.0) (receiver-flows rows cols dir y q) ∙ w.1))
            (λ q. absurd (omega (arith, e, passes-end rows cols dir (suc m) y z f q))) (two (flows y))
      ]

  walk-passes : (i m y z : ℕ) → i ≤ m → z < n → walk_to recv i y ≡ z → passes_in rows cols dir m y z ≡ 1
  walk-passes zero m y z h l e = passes-self rows cols dir m y z (sym (walk_none recv y) ∙ e)
  walk-passes (suc i) zero y z h l e = absurd (omega arith)
  walk-passes (suc i) (suc m) y z h l e =
      elim (ℕ_discrete y z) [
        | yes q ↦ passes-self rows cols dir (suc m) y z q
        | no f ↦
            ⊎_elim
            (λ q. passes-next rows cols dir m y z f q ∙ walk-passes i m (next y) z (omega arith) l (ap (walk_to recv i) (sym (receiver-flows rows cols dir y q)) ∙ sym (walk_first recv i y) ∙ e))
            (λ q. absurd (omega (arith, e, walk_first recv i y, walk-off i (recv y) (omega (arith, receiver-stops rows cols dir y q))))) (two (flows y))
      ]

  -- ---- a cell on a ring, as it is computed and as it is

  -- a walk of one or more steps that comes back stays on the grid
  pub back-ring : (m x : ℕ) → x < rows * cols → walk_to (receiver_of rows cols dir) (suc m) x ≡ x → OnRing (rows * cols) (receiver_of rows cols dir) x
  back-ring m x here back =
      record {
        steps = suc m;
        some = omega arith;
        inside = (λ i l.
            elim (dec_lt (walk_to recv i x) n) [
              | yes k ↦ k
              | no k ↦ absurd (omega (arith, here, back, walk-join recv (suc m - i) i (suc m) x (omega arith), walk-off (suc m - i) (walk_to recv i x) (omega arith)))
            ]);
        back = back;
      }

  pub ring-is : (x : ℕ) → ring_at rows cols dir x ≡ true → OnRing (rows * cols) (receiver_of rows cols dir) x
  unfolding ring_at
  ring-is x e = go (and_both (flows x) (eqb (passes_in rows cols dir n (next x) x) 1) e)
    where
      go : (flows x ≡ true) × (eqb (passes_in rows cols dir n (next x) x) 1 ≡ true) → OnRing n recv x
      go (q, p) =
          let w = passes-walk n (next x) x (eqb-true (passes_in rows cols dir n (next x) x) 1 p) in
          back-ring w.0 x ((pointing d).within x (flows-mapped rows cols dir x q)) (walk_first recv w.0 x ∙ ap (walk_to recv w.0) (receiver-flows rows cols dir x q) ∙ w.1)

  pub is-ring : (x : ℕ) → OnRing (rows * cols) (receiver_of rows cols dir) x → ring_at rows cols dir x ≡ true
  unfolding ring_at
  is-ring x r =
      let q = receiver-points rows cols dir x (ring-next r) in
      let w = ring-few r in
      let here = (pointing d).within x (flows-mapped rows cols dir x q) in
      ap₂ ◌&&◌ q (eq-eqb (passes_in rows cols dir n (next x) x) 1 (walk-passes w.0 n (next x) x (omega (arith, w.1)) here (ap (walk_to recv w.0) (sym (receiver-flows rows cols dir x q)) ∙ w.2)))

  -- ---- where there is no ring, every trail ends

  -- the steps of a trail are walks
  steps-walk : (i m x : ℕ) → mapped_at rows cols dir x ≡ true → i ≤ steps_in rows cols dir m x → walk_to recv i x < n
  steps-walk zero m x v h = omega (arith, walk_none recv x, (pointing d).within x v)
  steps-walk (suc i) zero x v h = absurd (omega (arith, steps-none rows cols dir x))
  steps-walk (suc i) (suc m) x v h =
      ⊎_elim
      (λ q. omega (arith, walk_first recv i x, ap (walk_to recv i) (receiver-flows rows cols dir x q), steps-walk i m (next x) (d.stays x q) (omega (arith, steps_next rows cols dir m x q))))
      (λ q. absurd (omega (arith, steps-end rows cols dir (suc m) x q))) (two (flows x))

  module _ (none : (x : ℕ) → x < rows * cols → ring_at rows cols dir x ≡ false) where
    steps-short : (x : ℕ) → mapped_at rows cols dir x ≡ true → steps_in rows cols dir n x < n
    steps-short x v =
        elim (dec_lt (steps_in rows cols dir n x) n) [
          | yes l ↦ l
          | no f ↦ absurd (let r = long-ring x (λ i h. steps-walk i n x v (omega (arith, steps-le rows cols dir n x))) in true≢false (sym (is-ring r.0 r.1) ∙ none r.0 ((pointing d).within r.0 ((pointing d).from r.0 (ring-next r.1)))))
        ]

    pub ringless-directed : Directed rows cols dir
    ringless-directed =
        record {
          drawn = d;
          less = (λ x q. omega (arith, steps-stay rows cols dir n x (steps-short x (flows-mapped rows cols dir x q)), steps_next rows cols dir n x q));
        }

-- ---- where every trail ends, there is no ring

pub directed-ringless : {rows cols : ℕ} {dir : List ℕ} → Directed rows cols dir → (x : ℕ) → ring_at rows cols dir x ≡ false
directed-ringless {rows} {cols} {dir} d x = ⊎_elim (λ e. absurd (falling-ringless (ring-is d.drawn x e) (falling d))) (λ e. e) (two (ring_at rows cols dir x))
