-- What peeling leaves over is exactly the cells on a ring; so it takes every cell if and only if there is no ring. Assumes nothing.
use mathlib.Core.Path.{◌≡◌, refl, sym, ap, ◌∙◌}
use mathlib.Core.List.{List}
use mathlib.Core.Logic.{⊎_elim}
use mathlib.Core.Bool.{Bool, true, ◌&&◌}
use Prim.Native.Nat.{ℕ, zero, suc, ◌+◌, ◌-◌, ◌≤◌, ◌<◌}
use native.Mathlib.Omega.{arith}
use native.Mathlib.Numerals.{add-one}
use native.Mathlib.Decide.{dec_lt, ℕ_discrete}
use lib.ListN.{get_or}
use lib.Dec.{eqb}
use borrow.Author.Tests.{eq-eqb, ne_eqb, eqb-true}
use Rattle.laws.specs.Sums.{when}
use Rattle.laws.specs.First.{first_of}
use Rattle.laws.specs.Orders.{stands_in, Ordered, Pointing, Falling}
use Rattle.laws.specs.Peel.{Peeling}
use Rattle.laws.specs.Rings.{walk_to, OnRing}
use Rattle.laws.proofs.Tests.{two, and_both, and-true-left}
use Rattle.laws.proofs.Sums.{when-yes, when-no}
use Rattle.laws.proofs.First.{first_holds, first-le}
use Rattle.laws.proofs.Pigeon.{pigeon-meet}
use Rattle.laws.proofs.Orders.{stands-none, stands-more}
use Rattle.laws.proofs.Peel.{end-taken}

-- ---- walks

pub walk_none : (to : ℕ → ℕ) (x : ℕ) → walk_to to 0 x ≡ x
unfolding walk_to
walk_none to x = refl

walk_more : (to : ℕ → ℕ) (m x : ℕ) → walk_to to (m + 1) x ≡ to (walk_to to m x)
unfolding walk_to
walk_more to m x = rw add-one

-- the first step, and then the others
pub walk_first : (to : ℕ → ℕ) (m x : ℕ) → walk_to to (suc m) x ≡ walk_to to m (to x)
unfolding walk_to
walk_first to zero x = refl
walk_first to (suc m) x = ap to (walk_first to m x)

-- one walk after another
pub walk-join : (to : ℕ → ℕ) (a b c x : ℕ) → c ≡ a + b → walk_to to c x ≡ walk_to to a (walk_to to b x)
unfolding walk_to
walk-join to zero b c x e = let q : c ≡ b = omega arith in ap (λ (m : ℕ). walk_to to m x) q
walk-join to (suc a) b zero x e = absurd (omega arith)
walk-join to (suc a) b (suc c) x e = ap to (walk-join to a b c x (omega arith))

-- ---- a ring

module _ {n : ℕ} {to : ℕ → ℕ} {x : ℕ} (r : OnRing n to x) where
  -- each cell of the ring is pointed at by one of it
  ring-before : (i : ℕ) → i < r.steps → (j : ℕ) × (j < r.steps) × (to (walk_to to j x) ≡ walk_to to i x)
  ring-before zero h = (r.steps - 1, omega arith, sym (walk_more to (r.steps - 1) x) ∙ ap (λ (m : ℕ). walk_to to m x) (omega arith) ∙ r.back ∙ sym (walk_none to x))
  ring-before (suc i) h = (i, omega arith, sym (walk_more to i x) ∙ ap (λ (m : ℕ). walk_to to m x) (add-one i))

  -- where each cell stands after all that point at it, none of the ring can be the first
  ring-waits : (order : List ℕ) (p : ℕ) → ((j u : ℕ) → j < p → to u ≡ get_or order j 0 → 0 < stands_in order j u) → (k i : ℕ) → k ≤ p → i < r.steps → stands_in order k (walk_to to i x) ≡ 0
  ring-waits order p after zero i h l = stands-none order (walk_to to i x)
  ring-waits order p after (suc k) i h l =
      let b = ring-before i l in
      elim (ℕ_discrete (get_or order k 0) (walk_to to i x)) [
        | yes e ↦ absurd (omega (arith, after k (walk_to to b.0 x) (omega arith) (b.2 ∙ sym e), ring-waits order p after k b.0 (omega arith) b.1))
        | no d ↦ omega (arith, ring-waits order p after k i (omega arith) l, stands-more order k (walk_to to i x), when-no 1 (ne_eqb (get_or order k 0) (walk_to to i x) d), ap (λ (m : ℕ). stands_in order m (walk_to to i x)) (add-one k))
      ]

  -- its last step, too, leads to a cell
  pub ring-inside : (i : ℕ) → i ≤ r.steps → walk_to to i x < n
  ring-inside i h =
      elim (dec_lt i r.steps) [
        | yes l ↦ r.inside i l
        | no d ↦ (let e : i ≡ r.steps = omega arith in omega (arith, ap (λ (m : ℕ). walk_to to m x) e, r.back, r.inside 0 r.some, walk_none to x))
      ]

  pub ring-next : to x < n
  ring-next = omega (arith, ring-inside 1 r.some, walk_first to 0 x ∙ walk_none to (to x))

  -- no more steps than cells lead back
  pub ring-few : (m : ℕ) × (m < n) × (walk_to to m (to x) ≡ x)
  ring-few = elim (dec_lt n r.steps) [ yes l ↦ shorter (pigeon-meet n (n + 1) (λ i. walk_to to i x) (omega arith) (λ i h. ring-inside i (omega arith))) | no d ↦ few r.steps r.some (omega arith) r.back ]
    where
      few : (m : ℕ) → 0 < m → m ≤ n → walk_to to m x ≡ x → (k : ℕ) × (k < n) × (walk_to to k (to x) ≡ x)
      few zero h l e = absurd (omega arith)
      few (suc m) h l e = (m, omega arith, sym (walk_first to m x) ∙ e)

      shorter : (i : ℕ) × (j : ℕ) × (i < j) × (j < n + 1) × (walk_to to i x ≡ walk_to to j x) → (k : ℕ) × (k < n) × (walk_to to k (to x) ≡ x)
      shorter (i, j, h, k, e) =
          elim (dec_lt r.steps i) [
            | yes l ↦ few r.steps r.some (omega arith) r.back
            | no l ↦
                few (j - i) (omega arith) (omega arith)
                (ap (walk_to to (j - i)) (sym r.back)
                ∙ sym (walk-join to (j - i) r.steps (r.steps - i + j) x (omega arith))
                ∙ walk-join to (r.steps - i) j (r.steps - i + j) x refl
                ∙ ap (walk_to to (r.steps - i)) (sym e)
                ∙ sym (walk-join to (r.steps - i) i r.steps x (omega arith))
                ∙ r.back)
          ]

  -- there is none where ranks fall
  pub falling-ringless : {rank : ℕ → ℕ} → Falling n to rank → ⊥
  falling-ringless {rank} f = omega (arith, r.some, falls r.steps (omega arith), ap rank r.back)
    where
      falls : (i : ℕ) → i ≤ r.steps → rank (walk_to to i x) + i ≤ rank x
      falls zero h = omega (arith, ap rank (walk_none to x))
      falls (suc i) h =
          let e : walk_to to (suc i) x ≡ to (walk_to to i x) = ap (λ (m : ℕ). walk_to to m x) (sym (add-one i)) ∙ walk_more to i x in
          omega (arith, falls i (omega arith), f.less (walk_to to i x) (omega (arith, ring-inside (suc i) h, e)), ap rank e)

-- a walk of as many steps as there are cells meets a ring
pub long-ring : {n : ℕ} {to : ℕ → ℕ} (x : ℕ) → ((i : ℕ) → i ≤ n → walk_to to i x < n) → (z : ℕ) × OnRing n to z
long-ring {n} {to} x below = go (pigeon-meet n (n + 1) (λ i. walk_to to i x) (omega arith) (λ i h. below i (omega arith)))
  where
    go : (i : ℕ) × (j : ℕ) × (i < j) × (j < n + 1) × (walk_to to i x ≡ walk_to to j x) → (z : ℕ) × OnRing n to z
    go (i, j, h, k, e) = (
      walk_to to i x,
      record {
        steps = j - i;
        some = omega arith;
        inside = (λ t l. omega (arith, walk-join to t i (t + i) x refl, below (t + i) (omega arith)));
        back = sym (walk-join to (j - i) i j x (omega arith)) ∙ sym e;
      },
    )

-- of cells without end, each of which points at the one before, the first is on a ring: one must come again
module _ {n : ℕ} (to c : ℕ → ℕ) (below : (i : ℕ) → c i < n) (points : (i : ℕ) → to (c (suc i)) ≡ c i) where
  down : (m i j : ℕ) → j ≡ i + m → walk_to to m (c j) ≡ c i
  unfolding walk_to
  down zero i j e = let q : j ≡ i = omega arith in ap c q
  down (suc m) i j e = ap to (down m (suc i) j (omega arith)) ∙ points i

  endless-ring : OnRing n to (c 0)
  endless-ring = go (pigeon-meet n (n + 1) c (omega arith) (λ i h. below i))
    where
      go : (i : ℕ) × (j : ℕ) × (i < j) × (j < n + 1) × (c i ≡ c j) → OnRing n to (c 0)
      go (i, j, h, k, e) =
          let again : c 0 ≡ c (j - i) = sym (down i 0 i (omega arith)) ∙ ap (walk_to to i) e ∙ down i (j - i) j (omega arith) in
          record {
            steps = j - i;
            some = omega arith;
            inside = (λ t l. omega (arith, ap (walk_to to t) again, down t (j - i - t) (j - i) (omega arith), below (j - i - t)));
            back = ap (walk_to to (j - i)) again ∙ down (j - i) 0 (j - i) (omega arith);
          }

-- ---- what peeling leaves over

module _ {n : ℕ} {cell : ℕ → Bool} {to : ℕ → ℕ} (f : Pointing n cell to) {order waiting : List ℕ} {p b x : ℕ} (s : Peeling n cell to order waiting p b x) where
  -- a cell on a ring is never taken
  pub ring-left : {z : ℕ} → OnRing n to z → stands_in order p z ≡ 0
  ring-left {z} r = ap (stands_in order p) (sym (walk_none to z)) ∙ ring-waits r order p s.after p 0 (omega arith) r.some

  module _ (h : n ≤ b) (k : n ≤ x) where
    -- a cell that is left over at the end
    abbrev Left : ℕ → Type 0
    Left z = (cell z ≡ true) × (stands_in order p z ≡ 0)

    -- another such, which points at it
    sends : ℕ → ℕ → Bool
    sends z u = eqb (to u) z && eqb (stands_in order p u) 0

    source : ℕ → ℕ
    source z = first_of (sends z) n

    source-left : (z : ℕ) → Left z → (to (source z) ≡ z) × Left (source z)
    unfolding source sends
    source-left z (v, new) =
        elim (dec_lt (source z) n) [
          | yes l ↦ found l
          | no d ↦ absurd (omega (arith, new, end-taken f s h k z v (λ u e. taken d u e (f.within u (f.from u (omega (arith, f.within z v)))))))
        ]
      where
        found : source z < n → (to (source z) ≡ z) × Left (source z)
        found l =
            let q = and_both _ _ (first_holds (sends z) n l) in
            let e = eqb-true (to (source z)) z q.0 in
            (e, (f.from (source z) (omega (arith, f.within z v)), eqb-true (stands_in order p (source z)) 0 q.1))

        taken : (source z < n → ⊥) → (u : ℕ) → to u ≡ z → u < n → 0 < stands_in order p u
        taken d u e l =
            elim (dec_lt 0 (stands_in order p u)) [
              | yes t ↦ t
              | no g ↦ absurd (d (omega (arith, first-le (sends z) n u l (sym (and-true-left _ _ (eq-eqb (to u) z e)) ∙ eq-eqb (stands_in order p u) 0 (omega arith)))))
            ]

    -- and so on without end
    sources-left : (i z : ℕ) → Left z → Left (walk_to source i z)
    unfolding walk_to
    sources-left zero z l = l
    sources-left (suc i) z l = (source-left (walk_to source i z) (sources-left i z l)).1

    pub left-ring : {z : ℕ} → cell z ≡ true → stands_in order p z ≡ 0 → OnRing n to z
    unfolding walk_to
    left-ring {z} v e = endless-ring to (λ i. walk_to source i z) (λ i. f.within (walk_to source i z) (sources-left i z (v, e)).0) (λ i. (source-left (walk_to source i z) (sources-left i z (v, e))).0)

    -- so, where there is no ring, every cell is taken
    pub peel-all : ((z : ℕ) → OnRing n to z → ⊥) → Ordered cell to order p
    peel-all none = record { once = once; after = s.after }
      where
        once : (z : ℕ) → stands_in order p z ≡ when (cell z) 1
        once z =
            ⊎_elim (λ v. elim (dec_lt 0 (stands_in order p z)) [ yes l ↦ omega (arith, s.once z, when-yes 1 v) | no d ↦ absurd (none z (left-ring v (omega arith))) ])
            (λ v. omega (arith, s.once z, when-no 1 v)) (two (cell z))
