-- Laws of places: at how many of the first places of a list a number stands, and what an order of cells gives. Assumes nothing.
use mathlib.Core.Path.{◌≡◌, refl, sym, ap, ◌∙◌}
use mathlib.Core.List.{List}
use mathlib.Core.Logic.{⊎_elim}
use mathlib.Core.Bool.{Bool, true, false}
use Prim.Native.Nat.{ℕ, zero, suc, ◌+◌, ◌≤◌, ◌<◌}
use native.Mathlib.Omega.{arith}
use native.Mathlib.Numerals.{add-one}
use native.Mathlib.Decide.{dec_lt, dec_le, ℕ_discrete}
use lib.ListN.{length, get_or, set}
use lib.Seq.{get_or-set_same, get_or-set_other}
use lib.Dec.{eqb}
use borrow.Author.Tests.{eq-eqb, ne_eqb}
use Rattle.laws.specs.Sums.{sum_to, when}
use Rattle.laws.specs.Orders.{stands_in, taken_of, Placed, Ordered}
use Rattle.laws.proofs.Tests.{two}
use Rattle.laws.proofs.Sums.{sum-none, sum_more, sum-ext, sum-zero, sum_one, sum-add, when-yes, when-no, when-under, when-zero, when-add}

-- ---- places

pub stands-none : (order : List ℕ) (x : ℕ) → stands_in order 0 x ≡ 0
unfolding stands_in
stands-none order x = sum-none (λ i. when (eqb (get_or order i 0) x) 1)

pub stands-more : (order : List ℕ) (p x : ℕ) → stands_in order (p + 1) x ≡ stands_in order p x + when (eqb (get_or order p 0) x) 1
unfolding stands_in
stands-more order p x = sum_more p (λ i. when (eqb (get_or order i 0) x) 1)

-- a store at a later place
pub stands_set : (order : List ℕ) (p q x v : ℕ) → p ≤ q → stands_in (set order q v) p x ≡ stands_in order p x
unfolding stands_in
stands_set order p q x v h =
    sum-ext p (λ i. when (eqb (get_or (set order q v) i 0) x) 1) (λ i. when (eqb (get_or order i 0) x) 1) (λ i l.
    ap (λ (y : ℕ). when (eqb y x) 1) (get_or-set_other order q i v 0 (λ e. omega arith)))

-- one place more, where y is stored
pub stands-store : (order : List ℕ) (p x y : ℕ) → p < length order → stands_in (set order p y) (p + 1) x ≡ stands_in order p x + when (eqb y x) 1
stands-store order p x y h =
    omega (arith, stands-more (set order p y) p x, stands_set order p p x y (omega arith), ap (λ (z : ℕ). when (eqb z x) 1) (get_or-set_same order p y 0 h))

pub stands-le : (order : List ℕ) (p q x : ℕ) → p ≤ q → stands_in order p x ≤ stands_in order q x
stands-le order p zero x h = let e : p ≡ 0 = omega arith in omega (arith, ap (λ (i : ℕ). stands_in order i x) e)
stands-le order p (suc q) x h =
    elim (dec_le p q) [
      | yes l ↦ omega (arith, stands-le order p q x l, stands-more order q x, ap (λ (i : ℕ). stands_in order i x) (add-one q))
      | no f ↦ let e : p ≡ suc q = omega arith in omega (arith, ap (λ (i : ℕ). stands_in order i x) e)
    ]

-- what is stored at a place stands there
pub stands_here : (order : List ℕ) (p i : ℕ) → i < p → 0 < stands_in order p (get_or order i 0)
stands_here order p i h =
    omega (arith, stands-le order (i + 1) p (get_or order i 0) (omega arith), stands-more order i (get_or order i 0), when-yes 1 (eq-eqb (get_or order i 0) (get_or order i 0) refl))

-- and what stands has a place
pub stands_at : (order : List ℕ) (p x : ℕ) → 0 < stands_in order p x → (i : ℕ) × (i < p) × (get_or order i 0 ≡ x)
stands_at order zero x h = absurd (omega (arith, stands-none order x))
stands_at order (suc p) x h =
    elim (ℕ_discrete (get_or order p 0) x) [
      | yes e ↦ (p, omega arith, e)
      | no d ↦ let r = stands_at order p x (omega (arith, stands-more order p x, when-no 1 (ne_eqb (get_or order p 0) x d), ap (λ (i : ℕ). stands_in order i x) (add-one p))) in (r.0, omega (arith, r.1), r.2)
    ]

-- the numbers below n stand at as many places as there are
pub stands-total : (order : List ℕ) (n p : ℕ) → ((i : ℕ) → i < p → get_or order i 0 < n) → sum_to n (stands_in order p) ≡ p
stands-total order n zero h = sum-zero n (stands_in order 0) (λ i l. stands-none order i)
stands-total order n (suc p) h =
    let y = get_or order p 0 in
    omega (
      arith,
      sum-ext n (stands_in order (suc p)) (λ x. stands_in order p x + when (eqb y x) 1) (λ x l. ap (λ (i : ℕ). stands_in order i x) (sym (add-one p)) ∙ stands-more order p x),
      sum-add n (stands_in order p) (λ x. when (eqb y x) 1),
      sum_one n (λ x. when (eqb y x) 1) y (h p (omega arith)) (λ x l d. when-no 1 (ne_eqb y x (λ e. d (sym e)))),
      when-yes 1 (eq-eqb y y refl),
      stands-total order n p (λ i l. h i (omega arith)),
    )

-- ---- a place more

-- the next of the list
pub placed-next : (order : List ℕ) (p : ℕ) → Placed order p order (p + 1) (get_or order p 0)
placed-next order p = record { one = stands-more order p }

-- one that is stored
pub placed-store : (order : List ℕ) (p x : ℕ) → p < length order → Placed order p (set order p x) (p + 1) x
placed-store order p x h = record { one = (λ z. stands-store order p z x h) }

module _ {order order' : List ℕ} {p q x : ℕ} (s : Placed order p order' q x) where
  pub placed-here : stands_in order' q x ≡ stands_in order p x + 1
  placed-here = omega (arith, s.one x, when-yes 1 (eq-eqb x x refl))

  pub placed-other : (z : ℕ) → (z ≡ x → ⊥) → stands_in order' q z ≡ stands_in order p z
  placed-other z d = omega (arith, s.one z, when-no 1 (ne_eqb x z (λ e. d (sym e))))

-- ---- an order of cells

module _ {cell : ℕ → Bool} {to : ℕ → ℕ} {order : List ℕ} {m : ℕ} (o : Ordered cell to order m) where
  pub order-cell : (i : ℕ) → i < m → cell (get_or order i 0) ≡ true
  order-cell i h = ⊎_elim (λ e. e) (λ e. absurd (omega (arith, stands_here order m i h, o.once (get_or order i 0), when-no 1 e))) (two (cell (get_or order i 0)))

  pub order-every : (x : ℕ) → cell x ≡ true → (i : ℕ) × (i < m) × (get_or order i 0 ≡ x)
  order-every x e = stands_at order m x (omega (arith, o.once x, when-yes 1 e))

  -- a cell that stands before the place i does not stand at it
  pub order-new : (i : ℕ) → i < m → stands_in order i (get_or order i 0) ≡ 0
  order-new i h =
      let x = get_or order i 0 in
      omega (arith, o.once x, when-under (cell x) 1, stands-le order (i + 1) m x (omega arith), stands-more order i x, when-yes 1 (eq-eqb x x refl))

  -- a cell stands before the one that it points at
  pub order-before : (i j : ℕ) → i < m → j < m → to (get_or order i 0) ≡ get_or order j 0 → i < j
  order-before i j h k e =
      elim (dec_lt i j) [ yes l ↦ l | no f ↦ absurd (omega (arith, o.after j (get_or order i 0) k e, stands-le order j i (get_or order i 0) (omega arith), order-new i h)) ]

  -- there are as many places as cells
  pub order-places : {n : ℕ} → ((x : ℕ) → cell x ≡ true → x < n) → m ≡ sum_to n (λ x. when (cell x) 1)
  order-places {n} w = sym (stands-total order n m (λ i h. w (get_or order i 0) (order-cell i h))) ∙ sum-ext n (stands_in order m) (λ x. when (cell x) 1) (λ x l. o.once x)

-- ---- a loop along an order that counts the cells which pass a test has at the end the number of cells that pass it

module _ (n : ℕ) (test : ℕ → Bool) (order : List ℕ) where
  pub taken-none : taken_of n test order 0 ≡ 0
  unfolding taken_of
  taken-none = sum-zero n (λ x. when (test x) (stands_in order 0 x)) (λ x l. ap (when (test x)) (stands-none order x) ∙ when-zero (test x))

  pub taken_more : (p : ℕ) → get_or order p 0 < n → taken_of n test order (p + 1) ≡ taken_of n test order p + when (test (get_or order p 0)) 1
  unfolding taken_of
  taken_more p h =
      let y = get_or order p 0 in
      omega (
        arith,
        sum-ext n (λ x. when (test x) (stands_in order (p + 1) x)) (λ x. when (test x) (stands_in order p x) + when (test x) (when (eqb y x) 1))
            (λ x l. ap (when (test x)) (stands-more order p x) ∙ when-add (test x) (stands_in order p x) (when (eqb y x) 1)),
        sum-add n (λ x. when (test x) (stands_in order p x)) (λ x. when (test x) (when (eqb y x) 1)),
        sum_one n (λ x. when (test x) (when (eqb y x) 1)) y h (λ x l d. ap (when (test x)) (when-no 1 (ne_eqb y x (λ e. d (sym e)))) ∙ when-zero (test x)),
        ap (when (test y)) (when-yes 1 (eq-eqb y y refl)),
      )

  pub taken-all : {cell : ℕ → Bool} {to : ℕ → ℕ} {m : ℕ} → Ordered cell to order m → ((x : ℕ) → test x ≡ true → cell x ≡ true) → taken_of n test order m ≡ sum_to n (λ x. when (test x) 1)
  unfolding taken_of
  taken-all {cell} {to} {m} o inside = sum-ext n (λ x. when (test x) (stands_in order m x)) (λ x. when (test x) 1) (λ x l. same x (test x) refl)
    where
      same : (x : ℕ) (b : Bool) → test x ≡ b → when (test x) (stands_in order m x) ≡ when (test x) 1
      same x true e = ap (when (test x)) (o.once x ∙ when-yes 1 (inside x e))
      same x false e = when-no (stands_in order m x) e ∙ sym (when-no 1 e)
