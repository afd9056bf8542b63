-- Trails along directions on which some number falls: they end, with fewer steps than cells; counts come from the cells that point at a cell; what leaves the map is what
-- is on it. Assumes nothing.
use Rattle.std.proofs.Common.{◌≡◌, ℕ, zero, suc, ◌+◌, ◌*◌, ◌<◌, ◌≤◌, Bool, true, false, cond, not, eqb, List, length, get_or, sym, refl, ap, ◌∙◌, subst, ap₂, inl, inr, ⊎_elim, true≢false, arith, ltb-true, le-ltb, lt-ltb, eq-eqb, ne_eqb, eqb-true}
use native.Mathlib.Decide.{dec_lt, ℕ_discrete}
use lib.ListN.{get_or-eq_default}
use borrow.Author.Tests.{eqb-false, not-true}
use Rattle.laws.specs.Sums.{sum_to, when}
use Rattle.laws.proofs.Tests.{two}
use Rattle.laws.proofs.Lists.{length-tab, get_or-tab}
use Rattle.laws.proofs.Pigeon.{pigeon}
use Rattle.laws.proofs.Sums.{sum-ext, sum-zero, sum_ones, sum-add, sum-swap, sum_one, sum-when, when-yes, when-no, when-zero, when-swap, when-add, when-under}
use Rattle.terrain.specs.Cells.{neighbour, code_of, bearing_of}
use Rattle.terrain.specs.Trail.{Trail, ends, goes, Meets, steps, mapped_at, flows_at, next_at, steps_in, passes_in, count_at, counts_of, receiver_of}
use Rattle.terrain.proofs.Neighbours.{bearing-code, code-bearing, code-small, bearing-leaves}

-- ---- one step

module _ (rows cols : ℕ) (dir : List ℕ) where
  pub mapped-is : (x : ℕ) → mapped_at rows cols dir x ≡ true → get_or dir x 255 ≡ 255 → ⊥
  unfolding mapped_at
  mapped-is x e q = eqb-false (get_or dir x 255) 255 (not-true (eqb (get_or dir x 255) 255) e) q

  pub is_mapped : (x : ℕ) → (get_or dir x 255 ≡ 255 → ⊥) → mapped_at rows cols dir x ≡ true
  unfolding mapped_at
  is_mapped x d = ap not (ne_eqb (get_or dir x 255) 255 d)

  pub mapped-none : (x : ℕ) → get_or dir x 255 ≡ 255 → mapped_at rows cols dir x ≡ false
  unfolding mapped_at
  mapped-none x e = ap not (eq-eqb (get_or dir x 255) 255 e)

  -- a cell with the code of a bearing goes on to the neighbour there
  pub code-flows : (x k : ℕ) → k < 8 → get_or dir x 255 ≡ code_of k → flows_at rows cols dir x ≡ true
  unfolding flows_at
  code-flows x k h e = lt-ltb (bearing_of (get_or dir x 255)) 8 (omega (arith, ap bearing_of e ∙ bearing-code k h))

  pub code-next : (x k : ℕ) → k < 8 → get_or dir x 255 ≡ code_of k → next_at rows cols dir x ≡ neighbour rows cols x k
  unfolding next_at
  code-next x k h e = ap (neighbour rows cols x) (ap bearing_of e ∙ bearing-code k h)

  pub flows-code : (x : ℕ) → flows_at rows cols dir x ≡ true → (bearing_of (get_or dir x 255) < 8) × (get_or dir x 255 ≡ code_of (bearing_of (get_or dir x 255)))
  unfolding flows_at
  flows-code x e = let l = ltb-true (bearing_of (get_or dir x 255)) 8 e in (l, code-bearing (get_or dir x 255) l)

  pub zero-stops : (x : ℕ) → get_or dir x 255 ≡ 0 → flows_at rows cols dir x ≡ false
  unfolding flows_at
  zero-stops x e = le-ltb (bearing_of (get_or dir x 255)) 8 (omega (arith, ap bearing_of e ∙ bearing-leaves))

  pub flows-mapped : (x : ℕ) → flows_at rows cols dir x ≡ true → mapped_at rows cols dir x ≡ true
  flows-mapped x e = is_mapped x (λ q. omega (arith, (flows-code x e).1, code-small (bearing_of (get_or dir x 255))))

  -- the cell that a cell points at
  pub receiver-flows : (x : ℕ) → flows_at rows cols dir x ≡ true → receiver_of rows cols dir x ≡ next_at rows cols dir x
  unfolding receiver_of
  receiver-flows x q = ap (λ (b : Bool). cond b (next_at rows cols dir x) (rows * cols)) q

  pub receiver-stops : (x : ℕ) → flows_at rows cols dir x ≡ false → receiver_of rows cols dir x ≡ rows * cols
  unfolding receiver_of
  receiver-stops x q = ap (λ (b : Bool). cond b (next_at rows cols dir x) (rows * cols)) q

  pub receiver-points : (x : ℕ) → receiver_of rows cols dir x < rows * cols → flows_at rows cols dir x ≡ true
  receiver-points x h = ⊎_elim (λ q. q) (λ q. absurd (omega (arith, receiver-stops x q))) (two (flows_at rows cols dir x))

-- ---- a number that falls along every trail

pub record Falls (rows cols : ℕ) (dir : List ℕ) (pot : ℕ → ℕ) : Type 0 where
  pub long : length dir ≡ rows * cols
  pub stays : (x : ℕ) → flows_at rows cols dir x ≡ true → mapped_at rows cols dir (next_at rows cols dir x) ≡ true
  pub less : (x : ℕ) → flows_at rows cols dir x ≡ true → pot (next_at rows cols dir x) < pot x

module _ (rows cols : ℕ) (dir : List ℕ) where
  abbrev n : ℕ
  n = rows * cols

  abbrev valid : ℕ → Bool
  valid = mapped_at rows cols dir

  abbrev flows : ℕ → Bool
  flows = flows_at rows cols dir

  abbrev next : ℕ → ℕ
  next = next_at rows cols dir

  pub mapped_in : length dir ≡ rows * cols → (x : ℕ) → mapped_at rows cols dir x ≡ true → x < rows * cols
  mapped_in e x v = elim (dec_lt x (rows * cols)) [ yes h ↦ h | no f ↦ absurd (mapped-is rows cols dir x v (get_or-eq_default dir 255 {n = x} (omega arith))) ]

  -- ---- the steps of a trail

  pub steps-none : (x : ℕ) → steps_in rows cols dir 0 x ≡ 0
  unfolding steps_in
  steps-none x = refl

  pub steps-end : (m x : ℕ) → flows_at rows cols dir x ≡ false → steps_in rows cols dir m x ≡ 0
  unfolding steps_in
  steps-end zero x q = refl
  steps-end (suc m) x q = ap (λ (b : Bool). cond b (steps_in rows cols dir m (next x) + 1) 0) q

  pub steps_next : (m x : ℕ) → flows_at rows cols dir x ≡ true → steps_in rows cols dir (suc m) x ≡ steps_in rows cols dir m (next_at rows cols dir x) + 1
  unfolding steps_in
  steps_next m x q = ap (λ (b : Bool). cond b (steps_in rows cols dir m (next x) + 1) 0) q

  pub steps-le : (m x : ℕ) → steps_in rows cols dir m x ≤ m
  steps-le zero x = omega (arith, steps-none x)
  steps-le (suc m) x = ⊎_elim (λ q. omega (arith, steps_next m x q, steps-le m (next x))) (λ q. omega (arith, steps-end (suc m) x q)) (two (flows x))

  -- fewer steps than allowed: the trail has ended
  pub steps-stay : (m x : ℕ) → steps_in rows cols dir m x < m → steps_in rows cols dir (suc m) x ≡ steps_in rows cols dir m x
  steps-stay zero x h = absurd (omega arith)
  steps-stay (suc m) x h =
      ⊎_elim (λ q. omega (arith, steps_next m x q, steps_next (suc m) x q, steps-stay m (next x) (omega (arith, steps_next m x q))))
      (λ q. steps-end (suc (suc m)) x q ∙ sym (steps-end (suc m) x q)) (two (flows x))

  -- the cell after i steps
  along : ℕ → ℕ → ℕ
  along zero x = x
  along (suc i) x = along i (next x)

  -- the trail makes m steps
  abbrev Goes : ℕ → ℕ → Type 0
  Goes zero x = Unit {0}
  Goes (suc m) x = (flows x ≡ true) × Goes m (next x)

  steps-goes : (m x : ℕ) → Goes (steps_in rows cols dir m x) x
  steps-goes zero x = subst (λ (s : ℕ). Goes s x) (sym (steps-none x)) tt
  steps-goes (suc m) x =
      ⊎_elim (λ q. let e : steps_in rows cols dir (suc m) x ≡ suc (steps_in rows cols dir m (next x)) = omega (arith, steps_next m x q) in subst (λ (s : ℕ). Goes s x) (sym e) (go q (steps-goes m (next x))))
      (λ q. subst (λ (s : ℕ). Goes s x) (sym (steps-end (suc m) x q)) tt) (two (flows x))
    where
      go : flows x ≡ true → Goes (steps_in rows cols dir m (next x)) (next x) → Goes (suc (steps_in rows cols dir m (next x))) x
      go q r = (q, r)

  -- ---- a trail that passes a cell

  pub passes-self : (m x z : ℕ) → x ≡ z → passes_in rows cols dir m x z ≡ 1
  unfolding passes_in
  passes-self zero x z e = ap (λ (b : Bool). cond b 1 0) (eq-eqb x z e)
  passes-self (suc m) x z e = ap (λ (b : Bool). cond b 1 (cond (flows x) (passes_in rows cols dir m (next x) z) 0)) (eq-eqb x z e)

  pub passes-next : (m x z : ℕ) → (x ≡ z → ⊥) → flows x ≡ true → passes_in rows cols dir (suc m) x z ≡ passes_in rows cols dir m (next x) z
  unfolding passes_in
  passes-next m x z d q = ap₂ (λ (b c : Bool). cond b 1 (cond c (passes_in rows cols dir m (next x) z) 0)) (ne_eqb x z d) q

  pub passes-end : (m x z : ℕ) → (x ≡ z → ⊥) → flows x ≡ false → passes_in rows cols dir m x z ≡ 0
  unfolding passes_in
  passes-end zero x z d q = ap (λ (b : Bool). cond b 1 0) (ne_eqb x z d)
  passes-end (suc m) x z d q = ap₂ (λ (b c : Bool). cond b 1 (cond c (passes_in rows cols dir m (next x) z) 0)) (ne_eqb x z d) q

  pub passes_none : (x z : ℕ) → (x ≡ z → ⊥) → passes_in rows cols dir 0 x z ≡ 0
  unfolding passes_in
  passes_none x z d = ap (λ (b : Bool). cond b 1 0) (ne_eqb x z d)

  passes-le : (m x z : ℕ) → passes_in rows cols dir m x z ≤ 1
  passes-le zero x z = elim (ℕ_discrete x z) [ yes e ↦ omega (arith, passes-self zero x z e) | no d ↦ omega (arith, passes_none x z d) ]
  passes-le (suc m) x z =
      elim (ℕ_discrete x z) [
        | yes e ↦ omega (arith, passes-self (suc m) x z e)
        | no d ↦ ⊎_elim (λ q. omega (arith, passes-next m x z d q, passes-le m (next x) z)) (λ q. omega (arith, passes-end (suc m) x z d q)) (two (flows x))
      ]

  -- a trail that is followed far enough passes what it meets
  pub meets-passes : {x : ℕ} (t : Trail rows cols dir x) (m z : ℕ) → steps rows cols dir t ≤ m → Meets rows cols dir z t → passes_in rows cols dir m x z ≡ 1
  meets-passes (ends x e) m z h q = passes-self m x z (sym q)
  meets-passes (goes x k g e t) zero z h q = absurd (omega arith)
  meets-passes (goes x k g e t) (suc m) z h q =
      elim (ℕ_discrete x z) [
        | yes i ↦ passes-self (suc m) x z i
        | no d ↦
            ⊎_elim (λ i. absurd (d (sym i)))
            (λ i. passes-next m x z d (code-flows rows cols dir x k g e) ∙ ap (λ (y : ℕ). passes_in rows cols dir m y z) (code-next rows cols dir x k g e) ∙ meets-passes t m z (omega arith) i)
            q
      ]

  -- and meets what it passes
  pub passes-meets : {x : ℕ} (t : Trail rows cols dir x) (m z : ℕ) → passes_in rows cols dir m x z ≡ 1 → Meets rows cols dir z t
  passes-meets (ends x e) m z h = elim (ℕ_discrete x z) [ yes i ↦ sym i | no d ↦ absurd (omega (arith, h, passes-end m x z d (zero-stops rows cols dir x e))) ]
  passes-meets (goes x k g e t) zero z h = elim (ℕ_discrete x z) [ yes i ↦ inl (sym i) | no d ↦ absurd (omega (arith, h, passes_none x z d)) ]
  passes-meets (goes x k g e t) (suc m) z h =
      elim (ℕ_discrete x z) [
        | yes i ↦ inl (sym i)
        | no d ↦
            (let q = passes-next m x z d (code-flows rows cols dir x k g e) ∙ ap (λ (y : ℕ). passes_in rows cols dir m y z) (code-next rows cols dir x k g e) in
            inr (passes-meets t m z (sym q ∙ h)))
      ]

  -- a count is at most the number of cells
  pub count-le : (z : ℕ) → count_at rows cols dir z ≤ rows * cols
  unfolding count_at
  count-le z = sum_ones n (λ x. when (valid x) (passes_in rows cols dir n x z)) (λ x l. omega (arith, when-under (valid x) (passes_in rows cols dir n x z), passes-le n x z))

  module _ (pot : ℕ → ℕ) (falls : Falls rows cols dir pot) where
    along-valid : (m x i : ℕ) → Goes m x → valid x ≡ true → i ≤ m → valid (along i x) ≡ true
    unfolding along
    along-valid m x zero g v h = v
    along-valid zero x (suc i) g v h = absurd (omega arith)
    along-valid (suc m) x (suc i) g v h = along-valid m (next x) i g.1 (falls.stays x g.0) (omega arith)

    along-le : (m x i : ℕ) → Goes m x → i ≤ m → pot (along i x) ≤ pot x
    unfolding along
    along-le m x zero g h = omega arith
    along-le zero x (suc i) g h = absurd (omega arith)
    along-le (suc m) x (suc i) g h = omega (arith, along-le m (next x) i g.1 (omega arith), falls.less x g.0)

    along-less : (m x i j : ℕ) → Goes m x → i < j → j ≤ m → pot (along j x) < pot (along i x)
    unfolding along
    along-less zero x i j g l h = absurd (omega arith)
    along-less (suc m) x i zero g l h = absurd (omega arith)
    along-less (suc m) x zero (suc j) g l h = omega (arith, along-le m (next x) j g.1 (omega arith), falls.less x g.0)
    along-less (suc m) x (suc i) (suc j) g l h = along-less m (next x) i j g.1 (omega arith) (omega arith)

    -- a trail has fewer steps than the grid has cells
    pub steps-below : (m x : ℕ) → mapped_at rows cols dir x ≡ true → steps_in rows cols dir m x < rows * cols
    steps-below m x v =
        let s = steps_in rows cols dir m x in
        let g = steps-goes m x in
        pigeon n (suc s) (λ i. along i x)
        (record {
          below = (λ i h. mapped_in falls.long (along i x) (along-valid s x i g v (omega arith)));
          differ = (λ i j l h e. omega (arith, along-less s x i j g l (omega arith), ap pot e));
        })

    -- the steps left fall by one at each step
    pub rank-next : (x : ℕ) → flows_at rows cols dir x ≡ true → steps_in rows cols dir (rows * cols) x ≡ steps_in rows cols dir (rows * cols) (next_at rows cols dir x) + 1
    rank-next x q = sym (steps-stay n x (steps-below n x (flows-mapped rows cols dir x q))) ∙ steps_next n x q

    pub rank_falls : Falls rows cols dir (steps_in rows cols dir (rows * cols))
    rank_falls = record { long = falls.long; stays = falls.stays; less = (λ x q. omega (arith, rank-next x q)) }

    -- each valid cell has a trail, which ends
    trail-below : (m x : ℕ) → pot x < m → valid x ≡ true → ((y : ℕ) → valid y ≡ true → flows y ≡ false → get_or dir y 255 ≡ 0) → Trail rows cols dir x
    trail-below zero x h v z = absurd (omega arith)
    trail-below (suc m) x h v z = ⊎_elim (λ q. on q (trail-below m (next x) (omega (arith, falls.less x q)) (falls.stays x q) z)) (λ q. ends x (z x v q)) (two (flows x))
      where
        on : flows x ≡ true → Trail rows cols dir (next x) → Trail rows cols dir x
        on q t = let c = flows-code rows cols dir x q in goes x (bearing_of (get_or dir x 255)) c.0 c.1 (subst (Trail rows cols dir) (code-next rows cols dir x (bearing_of (get_or dir x 255)) c.0 c.1) t)

    pub trail-of : ((y : ℕ) → mapped_at rows cols dir y ≡ true → flows_at rows cols dir y ≡ false → get_or dir y 255 ≡ 0) → (x : ℕ) → mapped_at rows cols dir x ≡ true → Trail rows cols dir x
    trail-of z x v = trail-below (suc (pot x)) x (omega arith) v z

    -- the computed steps are those of the trail
    pub trail-steps : {x : ℕ} (t : Trail rows cols dir x) → steps_in rows cols dir (rows * cols) x ≡ steps rows cols dir t
    trail-steps (ends x e) = steps-end n x (zero-stops rows cols dir x e)
    trail-steps (goes x k h e t) = omega (arith, rank-next x (code-flows rows cols dir x k h e), ap (steps_in rows cols dir n) (code-next rows cols dir x k h e), trail-steps t)

-- ---- counts, by a falling number that is at most the number of cells

module _ (rows cols : ℕ) (dir : List ℕ) (pot : ℕ → ℕ) (falls : Falls rows cols dir pot) where
  abbrev hits : ℕ → ℕ → ℕ → ℕ
  hits = passes_in rows cols dir

  abbrev goes_on : ℕ → Bool
  goes_on = flows_at rows cols dir

  abbrev to : ℕ → ℕ
  to = next_at rows cols dir

  abbrev cell : ℕ → Bool
  cell = mapped_at rows cols dir

  abbrev size : ℕ
  size = rows * cols

  -- a trail meets only lower cells after its first
  hits-above : (m x z : ℕ) → pot x < pot z → hits m x z ≡ 0
  hits-above zero x z h = passes_none rows cols dir x z (λ e. omega (arith, ap pot e))
  hits-above (suc m) x z h =
      ⊎_elim (λ q. passes-next rows cols dir m x z (λ e. omega (arith, ap pot e)) q ∙ hits-above m (to x) z (omega (arith, falls.less x q)))
      (λ q. passes-end rows cols dir (suc m) x z (λ e. omega (arith, ap pot e)) q) (two (goes_on x))

  -- a cell where trails leave
  abbrev pub leaves_at : ℕ → Bool
  leaves_at z = cond (mapped_at rows cols dir z) (not (flows_at rows cols dir z)) false

  flow-stays : (z : ℕ) → goes_on z ≡ true → leaves_at z ≡ false
  flow-stays z q = ap₂ (λ (a b : Bool). cond a (not b) false) (flows-mapped rows cols dir z q) q

  stop-leaves : (x : ℕ) → cell x ≡ true → goes_on x ≡ false → leaves_at x ≡ true
  stop-leaves x v q = ap₂ (λ (a b : Bool). cond a (not b) false) v q

  -- each trail passes one cell where trails leave
  ended : (m x : ℕ) → cell x ≡ true → goes_on x ≡ false → sum_to size (λ z. when (leaves_at z) (hits m x z)) ≡ 1
  ended m x v q =
      sum_one size (λ z. when (leaves_at z) (hits m x z)) x (mapped_in rows cols dir falls.long x v) (λ z l d. ap (when (leaves_at z)) (passes-end rows cols dir m x z (λ e. d (sym e)) q) ∙ when-zero (leaves_at z))
      ∙ when-yes (hits m x x) (stop-leaves x v q) ∙ passes-self rows cols dir m x x refl

  onward : (m x z : ℕ) → goes_on x ≡ true → when (leaves_at z) (hits (suc m) x z) ≡ when (leaves_at z) (hits m (to x) z)
  onward m x z q =
      ⊎_elim (λ e. ap (when (leaves_at z)) (passes-next rows cols dir m x z (λ p. true≢false (sym e ∙ ap leaves_at (sym p) ∙ flow-stays x q)) q))
      (λ e. when-no _ e ∙ sym (when-no _ e)) (two (leaves_at z))

  leaves-once : (m x : ℕ) → pot x ≤ m → cell x ≡ true → sum_to size (λ z. when (leaves_at z) (hits m x z)) ≡ 1
  leaves-once zero x h v = ⊎_elim (λ q. absurd (omega (arith, falls.less x q))) (ended zero x v) (two (goes_on x))
  leaves-once (suc m) x h v =
      ⊎_elim (λ q. sum-ext size (λ z. when (leaves_at z) (hits (suc m) x z)) (λ z. when (leaves_at z) (hits m (to x) z)) (λ z l. onward m x z q) ∙ leaves-once m (to x) (omega (arith, falls.less x q)) (falls.stays x q))
      (ended (suc m) x v) (two (goes_on x))

  module _ (bound : (x : ℕ) → pot x ≤ rows * cols) where
    -- what leaves the map is what is on it
    pub total-leaves : sum_to (rows * cols) (λ z. when (leaves_at z) (count_at rows cols dir z)) ≡ sum_to (rows * cols) (λ x. when (mapped_at rows cols dir x) 1)
    unfolding count_at
    total-leaves =
        sum-ext size (λ z. when (leaves_at z) (count_at rows cols dir z)) (λ z. sum_to size (λ x. when (leaves_at z) (when (cell x) (hits size x z)))) (λ z l. sum-when size (leaves_at z) (λ x. when (cell x) (hits size x z)))
        ∙ sum-swap size size (λ z x. when (leaves_at z) (when (cell x) (hits size x z)))
        ∙ sum-ext size (λ x. sum_to size (λ z. when (leaves_at z) (when (cell x) (hits size x z)))) (λ x. when (cell x) 1) (λ x l.
        sum-ext size (λ z. when (leaves_at z) (when (cell x) (hits size x z))) (λ z. when (cell x) (when (leaves_at z) (hits size x z))) (λ z q. when-swap (leaves_at z) (cell x) (hits size x z))
        ∙ sym (sum-when size (cell x) (λ z. when (leaves_at z) (hits size x z)))
        ∙ ⊎_elim (λ v. ap (when (cell x)) (leaves-once size x (bound x) v)) (λ v. when-no _ v ∙ sym (when-no _ v)) (two (cell x)))

    -- ---- what the cells that point at a cell bring

    inside : (x : ℕ) → cell x ≡ true → x < rows * cols
    inside x v = mapped_in rows cols dir falls.long x v

    here : (x : ℕ) → goes_on x ≡ true → x < rows * cols
    here x q = inside x (flows-mapped rows cols dir x q)

    hits-split : (m x y : ℕ) → goes_on x ≡ true → hits (suc m) x y ≡ when (eqb x y) 1 + hits m (to x) y
    hits-split m x y q =
        elim (ℕ_discrete x y) [
          | yes e ↦ omega (arith, passes-self rows cols dir (suc m) x y e, when-yes 1 (eq-eqb x y e), hits-above m (to x) y (omega (arith, falls.less x q, ap pot e)))
          | no d ↦ omega (arith, passes-next rows cols dir m x y d q, when-no 1 (ne_eqb x y d))
        ]

    abbrev recv : ℕ → ℕ
    recv = receiver_of rows cols dir

    -- what the cells that point at z are passed by
    abbrev brought : ℕ → ℕ → ℕ → ℕ
    brought m x z = sum_to size (λ y. when (eqb (recv y) z) (hits m x y))

    brought-none : (m x z : ℕ) → z < rows * cols → ((y : ℕ) → goes_on y ≡ true → to y ≡ z → hits m x y ≡ 0) → brought m x z ≡ 0
    brought-none m x z h e =
        sum-zero size (λ y. when (eqb (recv y) z) (hits m x y)) (λ y l.
        ⊎_elim (λ t. let g = eqb-true (recv y) z t in let q = receiver-points rows cols dir y (omega arith) in when-yes (hits m x y) t ∙ e y q (sym (receiver-flows rows cols dir y q) ∙ g)) (λ t. when-no (hits m x y) t) (two (eqb (recv y) z)))

    brought-self : (m x z : ℕ) → z < rows * cols → x ≡ z → hits m x z ≡ when (eqb x z) 1 + brought m x z
    brought-self m x z h e =
        omega (
          arith,
          passes-self rows cols dir m x z e,
          when-yes 1 (eq-eqb x z e),
          brought-none m x z h (λ y q g. hits-above m x y (omega (arith, falls.less y q, ap pot g, ap pot e))),
        )

    brought-end : (m x z : ℕ) → z < rows * cols → (x ≡ z → ⊥) → goes_on x ≡ false → hits m x z ≡ when (eqb x z) 1 + brought m x z
    brought-end m x z h d q =
        omega (
          arith,
          passes-end rows cols dir m x z d q,
          when-no 1 (ne_eqb x z d),
          brought-none m x z h (λ y t g. passes-end rows cols dir m x y (λ p. true≢false (sym t ∙ ap goes_on (sym p) ∙ q)) q),
        )

    brought-split : (m x z : ℕ) → goes_on x ≡ true → brought (suc m) x z ≡ when (eqb (to x) z) 1 + brought m (to x) z
    brought-split m x z q =
        sum-ext size (λ y. when (eqb (recv y) z) (hits (suc m) x y)) (λ y. when (eqb (recv y) z) (when (eqb x y) 1) + when (eqb (recv y) z) (hits m (to x) y)) (λ y l. ap (when (eqb (recv y) z)) (hits-split m x y q) ∙ when-add (eqb (recv y) z) (when (eqb x y) 1) (hits m (to x) y))
        ∙ sum-add size (λ y. when (eqb (recv y) z) (when (eqb x y) 1)) (λ y. when (eqb (recv y) z) (hits m (to x) y))
        ∙ ap (λ (j : ℕ). j + brought m (to x) z) itself
      where
        itself : sum_to size (λ y. when (eqb (recv y) z) (when (eqb x y) 1)) ≡ when (eqb (to x) z) 1
        itself =
            sum_one size (λ y. when (eqb (recv y) z) (when (eqb x y) 1)) x (here x q) (λ y l d. ap (when (eqb (recv y) z)) (when-no 1 (ne_eqb x y (λ e. d (sym e)))) ∙ when-zero (eqb (recv y) z))
            ∙ ap (when (eqb (recv x) z)) (when-yes 1 (eq-eqb x x refl)) ∙ ap (λ (y : ℕ). when (eqb y z) 1) (receiver-flows rows cols dir x q)

    hits-brought : (m x z : ℕ) → z < rows * cols → pot x ≤ m → hits m x z ≡ when (eqb x z) 1 + brought m x z
    hits-brought zero x z k h =
        elim (ℕ_discrete x z) [ yes e ↦ brought-self zero x z k e | no d ↦ ⊎_elim (λ q. absurd (omega (arith, falls.less x q))) (brought-end zero x z k d) (two (goes_on x)) ]
    hits-brought (suc m) x z k h =
        elim (ℕ_discrete x z) [
          | yes e ↦ brought-self (suc m) x z k e
          | no d ↦ ⊎_elim (λ q. omega (arith, passes-next rows cols dir m x z d q, when-no 1 (ne_eqb x z d), brought-split m x z q, hits-brought m (to x) z k (omega (arith, falls.less x q)))) (brought-end (suc m) x z k d) (two (goes_on x))
        ]

    -- a valid cell counts itself, and what the cells that point at it count
    pub count-brought : (z : ℕ) → mapped_at rows cols dir z ≡ true → count_at rows cols dir z ≡ 1 + sum_to (rows * cols) (λ y. when (eqb (receiver_of rows cols dir y) z) (count_at rows cols dir y))
    unfolding count_at
    count-brought z v =
        sum-ext size (λ x. when (cell x) (hits size x z)) (λ x. when (cell x) (when (eqb x z) 1) + when (cell x) (brought size x z)) (λ x l. ap (when (cell x)) (hits-brought size x z (inside z v) (bound x)) ∙ when-add (cell x) (when (eqb x z) 1) (brought size x z))
        ∙ sum-add size (λ x. when (cell x) (when (eqb x z) 1)) (λ x. when (cell x) (brought size x z))
        ∙ ap₂ ◌+◌ self rest
      where
        self : sum_to size (λ x. when (cell x) (when (eqb x z) 1)) ≡ 1
        self =
            sum_one size (λ x. when (cell x) (when (eqb x z) 1)) z (inside z v) (λ x l d. ap (when (cell x)) (when-no 1 (ne_eqb x z d)) ∙ when-zero (cell x))
            ∙ when-yes (when (eqb z z) 1) v ∙ when-yes 1 (eq-eqb z z refl)

        rest : sum_to size (λ x. when (cell x) (brought size x z)) ≡ sum_to size (λ y. when (eqb (recv y) z) (count_at rows cols dir y))
        rest =
            sum-ext size (λ x. when (cell x) (brought size x z)) (λ x. sum_to size (λ y. when (eqb (recv y) z) (when (cell x) (hits size x y)))) (λ x l.
            sum-when size (cell x) (λ y. when (eqb (recv y) z) (hits size x y))
            ∙ sum-ext size (λ y. when (cell x) (when (eqb (recv y) z) (hits size x y))) (λ y. when (eqb (recv y) z) (when (cell x) (hits size x y))) (λ y q. when-swap (cell x) (eqb (recv y) z) (hits size x y)))
            ∙ sum-swap size size (λ x y. when (eqb (recv y) z) (when (cell x) (hits size x y)))
            ∙ sum-ext size (λ y. sum_to size (λ x. when (eqb (recv y) z) (when (cell x) (hits size x y)))) (λ y. when (eqb (recv y) z) (count_at rows cols dir y)) (λ y q. sym (sum-when size (eqb (recv y) z) (λ x. when (cell x) (hits size x y))))

-- ---- the grid of counts

module _ (rows cols : ℕ) (dir : List ℕ) where
  pub counts-long : length (counts_of rows cols dir) ≡ rows * cols
  unfolding counts_of
  counts-long = length-tab (rows * cols) _

  pub counts-at : (z : ℕ) → z < rows * cols → get_or (counts_of rows cols dir) z 0 ≡ when (mapped_at rows cols dir z) (count_at rows cols dir z)
  unfolding counts_of
  counts-at z h = get_or-tab (rows * cols) (λ y. when (mapped_at rows cols dir y) (count_at rows cols dir y)) 0 z h
