-- Peeling: what it starts with, what taking a cell keeps, and what holds when none is left to take. Assumes nothing.
use mathlib.Core.Path.{◌≡◌, refl, sym, ap, ◌∙◌}
use mathlib.Core.List.{List}
use mathlib.Core.Logic.{⊎_elim}
use mathlib.Core.Bool.{Bool, true}
use Prim.Native.Nat.{ℕ, ◌+◌, ◌-◌, ◌≤◌, ◌<◌}
use native.Mathlib.Omega.{arith}
use native.Mathlib.Decide.{dec_lt, ℕ_discrete}
use lib.ListN.{length, get_or, set, length-set}
use lib.Seq.{get_or-set_same, get_or-set_other}
use lib.Dec.{eqb}
use borrow.Author.Tests.{eq-eqb, ne_eqb, eqb-true}
use Rattle.laws.specs.Sums.{sum_to, when}
use Rattle.laws.specs.Orders.{stands_in, Pointing}
use Rattle.laws.specs.Peel.{left_of, Peeling, Taking}
use Rattle.laws.proofs.Tests.{two}
use Rattle.laws.proofs.Sums.{sum-but-one, sum-ge, sum-le, sum-ext, sum-zero, sum_one, sum-add, sum_ones, when-yes, when-no, when-under, when-le, when-zero}
use Rattle.laws.proofs.Orders.{stands-none, stands_set, stands-store, stands-le, stands_here, stands_at, stands-total, placed-store, placed-here, placed-other}

module _ {n : ℕ} {cell : ℕ → Bool} {to : ℕ → ℕ} (f : Pointing n cell to) where
  -- ---- what a cell waits for

  -- nothing is taken
  left-start : (order : List ℕ) (z : ℕ) → left_of n to order 0 z ≡ sum_to n (λ x. when (eqb (to x) z) 1)
  unfolding left_of
  left-start order z = sum-ext n (λ x. when (eqb (to x) z) (1 - stands_in order 0 x)) (λ x. when (eqb (to x) z) 1) (λ x l. ap (when (eqb (to x) z)) (omega (arith, stands-none order x)))

  -- each cell that points at z and is not taken counts
  left-ge : (order : List ℕ) (p z x : ℕ) → z < n → to x ≡ z → 1 - stands_in order p x ≤ left_of n to order p z
  unfolding left_of
  left-ge order p z x h e =
      omega (arith, sum-ge n (λ u. when (eqb (to u) z) (1 - stands_in order p u)) x (f.within x (f.from x (omega arith))), when-yes (1 - stands_in order p x) (eq-eqb (to x) z e))

  left-none : (order : List ℕ) (p z : ℕ) → ((x : ℕ) → to x ≡ z → 0 < stands_in order p x) → left_of n to order p z ≡ 0
  unfolding left_of
  left-none order p z h =
      sum-zero n (λ x. when (eqb (to x) z) (1 - stands_in order p x)) (λ x l.
      ⊎_elim (λ e. when-yes (1 - stands_in order p x) e ∙ omega (arith, h x (eqb-true (to x) z e))) (λ e. when-no (1 - stands_in order p x) e) (two (eqb (to x) z)))

  -- a cell waits for no more than point at it
  pub left_le : (order : List ℕ) (p z : ℕ) → left_of n to order p z ≤ sum_to n (λ x. when (eqb (to x) z) 1)
  unfolding left_of
  left_le order p z = sum-le n (λ x. when (eqb (to x) z) (1 - stands_in order p x)) (λ x. when (eqb (to x) z) 1) (λ x l. when-le (eqb (to x) z) (1 - stands_in order p x) 1 (λ e. omega arith))

  -- x is taken at the next place
  left-take : (order : List ℕ) (p z x : ℕ) → x < n → p < length order → stands_in order p x ≡ 0 → left_of n to order p z ≡ left_of n to (set order p x) (p + 1) z + when (eqb (to x) z) 1
  unfolding left_of
  left-take order p z x h k e =
      let s : stands_in (set order p x) (p + 1) x ≡ 1 = omega (arith, stands-store order p x x k, when-yes 1 (eq-eqb x x refl)) in
      omega (
        arith,
        sum-but-one n (λ u. when (eqb (to u) z) (1 - stands_in order p u)) (λ u. when (eqb (to u) z) (1 - stands_in (set order p x) (p + 1) u)) x h
            (λ u l d. ap (λ (m : ℕ). when (eqb (to u) z) (1 - m)) (omega (arith, stands-store order p u x k, when-no 1 (ne_eqb x u (λ q. d (sym q)))))),
        ap (λ (m : ℕ). when (eqb (to x) z) (1 - m)) e,
        ap (λ (m : ℕ). when (eqb (to x) z) (1 - m)) s,
        when-zero (eqb (to x) z),
      )

  -- ---- the cell in hand

  module _ {order waiting : List ℕ} {p bound x : ℕ} (s : Peeling n cell to order waiting p bound x) where
    pub hand-cell : x < n → cell x ≡ true
    hand-cell h = (s.shut x h (s.held h)).0

    pub hand-new : x < n → stands_in order p x ≡ 0
    hand-new h = (s.shut x h (s.held h)).1

    pub place_in : (i : ℕ) → i < p → get_or order i 0 < n
    place_in i h =
        let y = get_or order i 0 in
        ⊎_elim (λ e. f.within y e) (λ e. absurd (omega (arith, stands_here order p i h, s.once y, when-no 1 e))) (two (cell y))

    -- there is a place for it
    pub hand-room : x < n → p < n
    hand-room h =
        let q : sum_to n (λ z. stands_in order p z + when (eqb x z) 1) ≤ n = sum_ones n (λ z. stands_in order p z + when (eqb x z) 1) (λ z l. each z) in
        omega (
          arith,
          stands-total order n p place_in,
          sum-add n (stands_in order p) (λ z. when (eqb x z) 1),
          sum_one n (λ z. when (eqb x z) 1) x h (λ z l d. when-no 1 (ne_eqb x z (λ e. d (sym e)))),
          when-yes 1 (eq-eqb x x refl),
        )
      where
        each : (z : ℕ) → stands_in order p z + when (eqb x z) 1 ≤ 1
        each z =
            elim (ℕ_discrete x z) [
              | yes e ↦ omega (arith, when-under (eqb x z) 1, hand-new h, ap (stands_in order p) e)
              | no d ↦ omega (arith, when-no 1 (ne_eqb x z d), s.once z, when-under (cell z) 1)
            ]

    -- all that point at it are taken
    pub hand-after : x < n → (u : ℕ) → to u ≡ x → 0 < stands_in order p u
    hand-after h u e = omega (arith, left-ge order p x u h e, s.waits x (hand-cell h) (hand-new h), s.held h)

    -- the cell that it points at is not taken
    pub next-new : x < n → to x < n → stands_in order p (to x) ≡ 0
    next-new h k =
        elim (dec_lt 0 (stands_in order p (to x))) [
          | yes l ↦ (let r = stands_at order p (to x) l in absurd (omega (arith, s.after r.0 x r.1 (sym r.2), stands-le order r.0 p x (omega (arith, r.1)), hand-new h)))
          | no d ↦ omega arith
        ]

    -- and waits for it
    pub next-waits : x < n → to x < n → 0 < get_or waiting (to x) 0
    next-waits h k = omega (arith, s.waits (to x) (f.stays x k) (next-new h k), left-ge order p (to x) x k refl, hand-new h)

    pub peel-take : {after : List ℕ} {y : ℕ} → x < n → Taking n to waiting after bound x y → Peeling n cell to (set order p x) after (p + 1) bound y
    peel-take {after} {y} h t =
        record {
          long = length-set order p x ∙ s.long;
          wide = t.wide ∙ s.wide;
          once = once;
          after = behind;
          waits = waits;
          shut = shut;
          ready = ready;
          held = (λ l. (t.some l).1);
        }
      where
        room : p < length order
        room = omega (arith, hand-room h, s.long)

        same : (z : ℕ) → (z ≡ x → ⊥) → stands_in (set order p x) (p + 1) z ≡ stands_in order p z
        same = placed-other (placed-store order p x room)

        here : stands_in (set order p x) (p + 1) x ≡ 1
        here = omega (arith, placed-here (placed-store order p x room), hand-new h)

        apart : (z : ℕ) → stands_in (set order p x) (p + 1) z ≡ 0 → z ≡ x → ⊥
        apart z e q = omega (arith, here, ap (stands_in (set order p x) (p + 1)) q)

        once : (z : ℕ) → stands_in (set order p x) (p + 1) z ≤ when (cell z) 1
        once z =
            elim (ℕ_discrete z x) [
              | yes e ↦ omega (arith, here, ap (stands_in (set order p x) (p + 1)) e, when-yes 1 (ap cell e ∙ hand-cell h))
              | no d ↦ omega (arith, same z d, s.once z)
            ]

        behind : (j u : ℕ) → j < p + 1 → to u ≡ get_or (set order p x) j 0 → 0 < stands_in (set order p x) j u
        behind j u l e =
            elim (ℕ_discrete j p) [
              | yes q ↦ (let g : to u ≡ x = e ∙ ap (λ (i : ℕ). get_or (set order p x) i 0) q ∙ get_or-set_same order p x 0 room in omega (arith, ap (λ (i : ℕ). stands_in (set order p x) i u) q, stands_set order p p u x (omega arith), hand-after h u g))
              | no d ↦ omega (arith, s.after j u (omega arith) (e ∙ get_or-set_other order p j x 0 d), stands_set order j p u x (omega arith))
            ]

        waits : (z : ℕ) → cell z ≡ true → stands_in (set order p x) (p + 1) z ≡ 0 → get_or after z 0 ≡ left_of n to (set order p x) (p + 1) z
        waits z v e =
            let d = apart z e in
            let w = s.waits z v (omega (arith, same z d)) in
            let q = left-take order p z x h room (hand-new h) in
            elim (ℕ_discrete z (to x)) [
              | yes g ↦ omega (arith, w, q, t.one (omega (arith, f.within z v)), ap (λ (i : ℕ). get_or after i 0) g, ap (λ (i : ℕ). get_or waiting i 0) g, when-yes 1 (eq-eqb (to x) z (sym g)))
              | no g ↦ omega (arith, w, q, t.other z d g, when-no 1 (ne_eqb (to x) z (λ e'. g (sym e'))))
            ]

        off : (z : ℕ) → get_or after z 0 ≡ 0 → z ≡ x → ⊥
        off z e q = omega (arith, t.shut, ap (λ (i : ℕ). get_or after i 0) q)

        shut : (z : ℕ) → z < n → get_or after z 0 ≡ 0 → (cell z ≡ true) × (stands_in (set order p x) (p + 1) z ≡ 0)
        shut z l e =
            elim (ℕ_discrete z (to x)) [
              | yes g ↦ (ap cell g ∙ f.stays x (omega arith), same z (off z e) ∙ ap (stands_in order p) g ∙ next-new h (omega arith))
              | no g ↦ (let w = s.shut z l (sym (t.other z (off z e) g) ∙ e) in (w.0, same z (off z e) ∙ w.1))
            ]

        ready : (z : ℕ) → cell z ≡ true → z < bound → stands_in (set order p x) (p + 1) z ≡ 0 → get_or after z 0 ≡ 0 → z ≡ y
        ready z v b e q =
            elim (ℕ_discrete z (to x)) [
              | yes g ↦ g ∙ sym (t.none (omega (arith, f.within z v)) (omega arith) (ap (λ (i : ℕ). get_or after i 0) (sym g) ∙ q))
              | no g ↦ absurd (off z q (s.ready z v b (sym (same z (off z q)) ∙ e) (sym (t.other z (off z q) g) ∙ q)))
            ]

  -- ---- from cell to cell, and the end

  module _ {order waiting : List ℕ} {p b x : ℕ} (s : Peeling n cell to order waiting p b x) where
    -- another bound, or another cell in hand
    rebound : {c y : ℕ} → ((z : ℕ) → cell z ≡ true → z < c → stands_in order p z ≡ 0 → get_or waiting z 0 ≡ 0 → z ≡ y) → (y < n → get_or waiting y 0 ≡ 0) → Peeling n cell to order waiting p c y
    rebound ready held = record { long = s.long; wide = s.wide; once = s.once; after = s.after; waits = s.waits; shut = s.shut; ready = ready; held = held }

    -- with none in hand, the next cell is taken in hand if it waits for none
    pub peel-begin : n ≤ x → get_or waiting b 0 ≡ 0 → Peeling n cell to order waiting p (b + 1) b
    peel-begin h e = rebound (λ z v l q w. elim (dec_lt z b) [ yes k ↦ absurd (omega (arith, s.ready z v k q w, f.within z v)) | no k ↦ omega arith ]) (λ l. e)

    -- and else passed
    pub peel-pass : n ≤ x → 0 < get_or waiting b 0 → Peeling n cell to order waiting p (b + 1) x
    peel-pass h e = rebound (λ z v l q w. elim (dec_lt z b) [ yes k ↦ s.ready z v k q w | no k ↦ (let g : z ≡ b = omega arith in absurd (omega (arith, w, ap (λ (i : ℕ). get_or waiting i 0) g))) ]) s.held

    -- the bound does not matter to taking a cell
    pub peel-less : Peeling n cell to order waiting p 0 x
    peel-less = rebound (λ z v l. absurd (omega arith)) s.held

    -- at the end a cell is taken if all that point at it are
    pub end-taken : n ≤ b → n ≤ x → (z : ℕ) → cell z ≡ true → ((u : ℕ) → to u ≡ z → 0 < stands_in order p u) → 0 < stands_in order p z
    end-taken h k z v q =
        elim (dec_lt 0 (stands_in order p z)) [
          | yes l ↦ l
          | no d ↦ absurd (omega (arith, f.within z v, s.ready z v (omega (arith, f.within z v)) (omega arith) (s.waits z v (omega arith) ∙ left-none order p z q)))
        ]

  -- ---- the start: no cell waits for less than points at it

  pub peel-start : {order waiting : List ℕ} → length order ≡ n → length waiting ≡ n → ((z : ℕ) → cell z ≡ true → get_or waiting z 0 ≡ sum_to n (λ x. when (eqb (to x) z) 1)) → ((z : ℕ) → z < n → get_or waiting z 0 ≡ 0 → cell z ≡ true) → Peeling n cell to order waiting 0 0 n
  peel-start {order} {waiting} a b w v =
      record {
        long = a;
        wide = b;
        once = (λ z. omega (arith, stands-none order z));
        after = (λ j u l e. absurd (omega arith));
        waits = (λ z c e. w z c ∙ sym (left-start order z));
        shut = (λ z l e. (v z l e, stands-none order z));
        ready = (λ z c l e q. absurd (omega arith));
        held = (λ l. absurd (omega arith));
      }
