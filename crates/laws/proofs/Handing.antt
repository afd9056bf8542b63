-- Values handed on along an order: when a cell's turn comes its value is whole, and at the end every cell's is. Assumes nothing.
use mathlib.Core.Path.{◌≡◌, refl, sym, ap, ◌∙◌}
use mathlib.Core.List.{List}
use mathlib.Core.Bool.{Bool, true, false}
use Prim.Native.Nat.{ℕ, ◌+◌, ◌≤◌, ◌<◌, max}
use native.Mathlib.Omega.{arith}
use native.Mathlib.Decide.{dec_lt, ℕ_discrete}
use lib.ListN.{length, get_or, set, length-set}
use lib.Seq.{get_or-set_same, get_or-set_other}
use lib.Dec.{eqb, ltb}
use borrow.Author.Tests.{eq-eqb, ne_eqb, eqb-true, lt-ltb, le-ltb}
use Rattle.laws.specs.Sums.{sum_to, greatest_to, when}
use Rattle.laws.specs.Orders.{stands_in, Placed, Ordered}
use Rattle.laws.specs.Handing.{Joining, got_of, Handing, Handed, Turn}
use Rattle.laws.proofs.Sums.{sum-but-one, sum-zero, sum-le, greatest-ge, greatest-le, greatest-mono, when-yes, when-no, when-under, when-zero, when-le, when-ext}
use Rattle.laws.proofs.Orders.{stands-none, placed-next, placed-here, placed-other, order-cell, order-new}

-- ---- the two ways to join

pub sum-joining : Joining ◌+◌ sum_to
sum-joining =
    record {
      assoc = (λ a b c. omega arith);
      unit = (λ a. omega arith);
      up = (λ a b c h. omega arith);
      zeros = sum-zero;
      mono = sum-le;
      more = (λ n f g k h e z. omega (arith, sum-but-one n f g k h e));
    }

pub greatest-joining : Joining max greatest_to
greatest-joining =
    record {
      assoc = (λ a b c. omega arith);
      unit = (λ a. omega arith);
      up = (λ a b c h. omega arith);
      zeros = (λ n f h. omega (arith, greatest-le n f 0 (λ i l. omega (arith, h i l))));
      mono = greatest-mono;
      more = (λ n f g k h e z. omega (arith, greatest-le n f (max (greatest_to n g) (f k)) (under n f g k e), greatest-ge n f k h, greatest-le n g (greatest_to n f) (over n f g k e z)));
    }
  where
    under : (n : ℕ) (f g : ℕ → ℕ) (k : ℕ) → ((i : ℕ) → i < n → (i ≡ k → ⊥) → f i ≡ g i) → (i : ℕ) → i < n → f i ≤ max (greatest_to n g) (f k)
    under n f g k e i l = elim (ℕ_discrete i k) [ yes q ↦ omega (arith, ap f q) | no d ↦ omega (arith, e i l d, greatest-ge n g i l) ]

    over : (n : ℕ) (f g : ℕ → ℕ) (k : ℕ) → ((i : ℕ) → i < n → (i ≡ k → ⊥) → f i ≡ g i) → g k ≡ 0 → (i : ℕ) → i < n → g i ≤ greatest_to n f
    over n f g k e z i l = elim (ℕ_discrete i k) [ yes q ↦ omega (arith, ap g q) | no d ↦ omega (arith, e i l d, greatest-ge n f i l) ]

module _ {join : ℕ → ℕ → ℕ} {all : ℕ → (ℕ → ℕ) → ℕ} {n : ℕ} {cell : ℕ → Bool} {to : ℕ → ℕ} {give : ℕ → ℕ → ℕ} {own v : ℕ → ℕ} (w : Handed join all n cell to give own v) where
  all-ext : (f g : ℕ → ℕ) → ((i : ℕ) → i < n → f i ≡ g i) → all n f ≡ all n g
  all-ext f g e = omega (arith, w.joins.mono n f g (λ i l. omega (arith, e i l)), w.joins.mono n g f (λ i l. omega (arith, e i l)))

  -- what x gives to z, and what it has given where x stands at m places
  abbrev part : ℕ → ℕ → ℕ
  part z x = when (eqb (to x) z) (give x (v x))

  abbrev given : ℕ → ℕ → ℕ → ℕ
  given z x m = when (eqb (to x) z) (when (ltb 0 m) (give x (v x)))

  given-le : (z x m : ℕ) → given z x m ≤ part z x
  given-le z x m = when-le (eqb (to x) z) _ _ (λ e. when-under (ltb 0 m) (give x (v x)))

  given-whole : (z x m : ℕ) → (to x ≡ z → 0 < m) → given z x m ≡ part z x
  given-whole z x m h = when-ext (eqb (to x) z) _ _ (λ e. when-yes (give x (v x)) (lt-ltb 0 m (h (eqb-true (to x) z e))))

  given-new : (z x m : ℕ) → m ≡ 0 → given z x m ≡ 0
  given-new z x m e = ap (when (eqb (to x) z)) (when-no (give x (v x)) (le-ltb 0 m (omega arith))) ∙ when-zero (eqb (to x) z)

  -- ---- the value so far

  abbrev got : List ℕ → ℕ → ℕ → ℕ
  got = got_of join all n to give own v

  got-start : (order : List ℕ) (z : ℕ) → got order 0 z ≡ own z
  unfolding got_of
  got-start order z = ap (join (own z)) (w.joins.zeros n (λ x. given z x (stands_in order 0 x)) (λ x l. given-new z x (stands_in order 0 x) (stands-none order x))) ∙ w.joins.unit (own z)

  got-le : (order : List ℕ) (p z : ℕ) → z < n → got order p z ≤ v z
  unfolding got_of
  got-le order p z h =
      let s : ℕ → ℕ = λ x. given z x (stands_in order p x) in
      omega (arith, w.local z h, w.joins.up (own z) (all n s) (all n (part z)) (w.joins.mono n s (part z) (λ x l. given-le z x (stands_in order p x))))

  got-whole : (order : List ℕ) (p z : ℕ) → z < n → ((x : ℕ) → to x ≡ z → 0 < stands_in order p x) → got order p z ≡ v z
  unfolding got_of
  got-whole order p z h q =
      ap (join (own z)) (all-ext (λ x. given z x (stands_in order p x)) (part z) (λ x l. given-whole z x (stands_in order p x) (q x)))
      ∙ sym (w.local z h)

  -- the turn of the cell x
  module _ {order order' : List ℕ} {p q x : ℕ} (next : Placed order p order' q x) where
    -- it hands on to the one that it points at alone
    got_same : (z : ℕ) → (z ≡ to x → ⊥) → got order' q z ≡ got order p z
    unfolding got_of
    got_same z d = ap (join (own z)) (all-ext (λ u. given z u (stands_in order' q u)) (λ u. given z u (stands_in order p u)) each)
      where
        each : (u : ℕ) → u < n → given z u (stands_in order' q u) ≡ given z u (stands_in order p u)
        each u l =
            elim (ℕ_discrete u x) [
              | yes e ↦ (let q = ne_eqb (to u) z (λ g. d (sym g ∙ ap to e)) in when-no _ q ∙ sym (when-no _ q))
              | no g ↦ ap (given z u) (placed-other next u g)
            ]

    got-more : (z : ℕ) → x < n → stands_in order p x ≡ 0 → z ≡ to x → got order' q z ≡ join (got order p z) (give x (v x))
    unfolding got_of
    got-more z h new e =
        let s : ℕ → ℕ = λ u. given z u (stands_in order p u) in
        let s' : ℕ → ℕ = λ u. given z u (stands_in order' q u) in
        ap (join (own z)) (w.joins.more n s' s x h (λ u l d. ap (given z u) (placed-other next u d)) (given-new z x (stands_in order p x) new) ∙ ap (join (all n s)) whole)
        ∙ sym (w.joins.assoc (own z) (all n s) (give x (v x)))
      where
        whole : given z x (stands_in order' q x) ≡ give x (v x)
        whole = given-whole z x (stands_in order' q x) (λ q. omega (arith, placed-here next)) ∙ when-yes (give x (v x)) (eq-eqb (to x) z (sym e))

  -- ---- a program that hands on

  module _ {fin : ℕ → ℕ → ℕ} where
    pub hand-start : (order : List ℕ) {l : List ℕ} → length l ≡ n → ((z : ℕ) → z < n → get_or l z 0 ≡ own z) → Handing join all n to give own v fin order l 0
    hand-start order h e =
        record {
          long = h;
          got = (λ z k q. e z k ∙ sym (got-start order z));
          done = (λ z q. absurd (omega (arith, stands-none order z)));
          after = (λ x q. absurd (omega (arith, stands-none order (to x))));
        }

    module _ {order l : List ℕ} {p : ℕ} (s : Handing join all n to give own v fin order l p) where
      -- that of a cell whose turn it is, is whole
      pub hand-whole : (x : ℕ) → x < n → stands_in order p x ≡ 0 → ((u : ℕ) → to u ≡ x → 0 < stands_in order p u) → get_or l x 0 ≡ v x
      hand-whole x h e q = s.got x h e ∙ got-whole order p x h q

      -- the one that it points at has not had its turn
      pub hand-next : (x : ℕ) → stands_in order p x ≡ 0 → stands_in order p (to x) ≡ 0
      hand-next x e = elim (dec_lt 0 (stands_in order p (to x))) [ yes l ↦ absurd (omega (arith, s.after x l)) | no d ↦ omega arith ]

      -- and what that has after the turn is not above its whole
      pub hand-fits : {order' : List ℕ} {q x : ℕ} → x < n → to x < n → stands_in order p x ≡ 0 → Placed order p order' q x → join (get_or l (to x) 0) (give x (v x)) ≤ v (to x)
      hand-fits {order'} {q} {x} h k e next =
          omega (
            arith,
            ap (λ (m : ℕ). join m (give x (v x))) (s.got (to x) k (hand-next x e)),
            got-more next (to x) h e refl,
            got-le order' q (to x) k,
          )

      -- the turn of a cell
      pub hand-turn : {order' k : List ℕ} {q x : ℕ} → x < n → stands_in order p x ≡ 0 → ((u : ℕ) → to u ≡ x → 0 < stands_in order p u) → Placed order p order' q x → Turn join n to give v fin l k x → Handing join all n to give own v fin order' k q
      hand-turn {order'} {k} {q} {x} h new before next t =
          record {
            long = t.long ∙ s.long;
            got = gets;
            done = does;
            after = behind;
          }
        where
          gets : (z : ℕ) → z < n → stands_in order' q z ≡ 0 → get_or k z 0 ≡ got_of join all n to give own v order' q z
          gets z b e =
              let d : z ≡ x → ⊥ = λ g. omega (arith, placed-here next, ap (stands_in order' q) g) in
              let now = s.got z b (omega (arith, next.one z)) in
              elim (ℕ_discrete z (to x)) [
                | yes g ↦ ap (λ (i : ℕ). get_or k i 0) g ∙ t.gave (omega arith) ∙ ap (λ (i : ℕ). join i (give x (v x))) (ap (λ (i : ℕ). get_or l i 0) (sym g) ∙ now) ∙ sym (got-more next z h new g)
                | no g ↦ t.kept z d g ∙ now ∙ sym (got_same next z g)
              ]

          does : (z : ℕ) → 0 < stands_in order' q z → get_or k z 0 ≡ fin z (v z)
          does z b =
              elim (ℕ_discrete z x) [
                | yes e ↦ ap (λ (i : ℕ). get_or k i 0) e ∙ t.made ∙ ap (λ (i : ℕ). fin i (v i)) (sym e)
                | no d ↦ (let c : 0 < stands_in order p z = omega (arith, placed-other next z d) in t.kept z d (λ e. omega (arith, s.after x (omega (arith, ap (stands_in order p) e)))) ∙ s.done z c)
              ]

          behind : (u : ℕ) → 0 < stands_in order' q (to u) → 0 < stands_in order' q u
          behind u b =
              elim (ℕ_discrete (to u) x) [
                | yes e ↦ omega (arith, before u e, next.one u)
                | no d ↦ omega (arith, s.after u (omega (arith, placed-other next (to u) d)), next.one u)
              ]

    -- ---- what a program may do at a turn

    module _ {l : List ℕ} {x : ℕ} where
      -- the entry is made already, and there is none to hand on to
      pub turn-off : n ≤ to x → get_or l x 0 ≡ fin x (v x) → Turn join n to give v fin l l x
      turn-off h e = record { long = refl; made = e; gave = (λ k. absurd (omega arith)); kept = (λ z d g. refl) }

      -- the entry is made already, and x hands on
      pub turn_on : {a : ℕ} → length l ≡ n → to x < n → get_or l x 0 ≡ fin x (v x) → a ≡ join (get_or l (to x) 0) (give x (v x)) → Turn join n to give v fin l (set l (to x) a) x
      turn_on {a} h k e g =
          record {
            long = length-set l (to x) a;
            made = get_or-set_other l (to x) x a 0 (λ q. w.points.apart x k (sym q)) ∙ e;
            gave = (λ q. get_or-set_same l (to x) a 0 (omega arith) ∙ g);
            kept = (λ z d q. get_or-set_other l (to x) z a 0 q);
          }

      -- the entry is stored first
      pub turn-stored : {k : List ℕ} (a : ℕ) → Turn join n to give v fin (set l x a) k x → Turn join n to give v fin l k x
      turn-stored a t =
          record {
            long = t.long ∙ length-set l x a;
            made = t.made;
            gave = (λ h. t.gave h ∙ ap (λ (m : ℕ). join m (give x (v x))) (get_or-set_other l x (to x) a 0 (w.points.apart x h)));
            kept = (λ z d q. t.kept z d q ∙ get_or-set_other l x z a 0 d);
          }

    -- ---- along an order that is there

    module _ {order : List ℕ} {m : ℕ} (o : Ordered cell to order m) where
      module _ {l : List ℕ} {p : ℕ} (s : Handing join all n to give own v fin order l p) (h : p < m) where
        turn_in : get_or order p 0 < n
        turn_in = w.points.within (get_or order p 0) (order-cell o p h)

        pub next-whole : get_or l (get_or order p 0) 0 ≡ v (get_or order p 0)
        next-whole = hand-whole s (get_or order p 0) turn_in (order-new o p h) (λ u. o.after p u h)

        pub next_fits : to (get_or order p 0) < n → join (get_or l (to (get_or order p 0)) 0) (give (get_or order p 0) (v (get_or order p 0))) ≤ v (to (get_or order p 0))
        next_fits k = hand-fits s turn_in k (order-new o p h) (placed-next order p)

        pub next-turn : {k : List ℕ} → Turn join n to give v fin l k (get_or order p 0) → Handing join all n to give own v fin order k (p + 1)
        next-turn t = hand-turn s turn_in (order-new o p h) (λ u. o.after p u h) (placed-next order p) t

      module _ {l : List ℕ} (s : Handing join all n to give own v fin order l m) where
        -- at the end every cell has what is made of its whole value
        pub hand-all : (z : ℕ) → cell z ≡ true → get_or l z 0 ≡ fin z (v z)
        hand-all z e = s.done z (omega (arith, o.once z, when-yes 1 e))

        -- and what is no cell has its value
        pub hand-rest : (z : ℕ) → z < n → cell z ≡ false → get_or l z 0 ≡ v z
        hand-rest z h e = hand-whole s z h (omega (arith, o.once z, when-no 1 e)) (λ u q. omega (arith, o.once u, when-yes 1 (w.points.from u (omega arith))))
