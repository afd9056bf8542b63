-- The order from the ridges down as the code makes it: what cells wait for, taking a cell, and that the end is an order of the valid cells. Assumes nothing.
use Rattle.std.proofs.Common.{◌≡◌, ℕ, ◌+◌, ◌-◌, ◌*◌, ◌<◌, ◌≤◌, Bool, true, cond, eqb, List, length, get_or, set, take, sym, refl, ap, ◌∙◌, subst, ⊎_elim, arith, length-set, get_or-set_other, get_or-set_same, eq-eqb, ne_eqb}
use native.Mathlib.Decide.{dec_lt, ℕ_discrete}
use Rattle.std.proofs.lemmas.List.{set_past, get_or-take, length-take-le}
use Rattle.laws.specs.Lists.{tab}
use Rattle.laws.specs.Sums.{sum_to, when}
use Rattle.laws.specs.Peel.{Taking}
use Rattle.laws.specs.Orders.{stands_in}
use Rattle.laws.proofs.Sums.{sum-ext, sum-none, sum_more, sum_ones, when-yes, when-no, when-under}
use Rattle.laws.proofs.Lists.{length-tab, get_or-tab}
use Rattle.laws.proofs.Tests.{two}
use Rattle.laws.proofs.Orders.{order-cell, order-places}
use Rattle.laws.proofs.Peel.{peel-start, peel-take, next-waits}
use Rattle.laws.proofs.Rings.{peel-all, falling-ringless}
use Rattle.terrain.specs.Trail.{mapped_at, receiver_of}
use Rattle.terrain.specs.InnerTrail.{Drawn, Directed}
use Rattle.terrain.specs.Downhill.{Downhill}
use Rattle.terrain.specs.InnerDownhill.{Awaiting, Peeled, Onward}
use Rattle.terrain.proofs.Receivers.{pointing, falling}

module _ {rows cols : ℕ} {dir : List ℕ} (d : Drawn rows cols dir) where
  abbrev n : ℕ
  n = rows * cols

  abbrev valid : ℕ → Bool
  valid = mapped_at rows cols dir

  abbrev recv : ℕ → ℕ
  recv = receiver_of rows cols dir

  -- ---- what cells wait for

  -- before any is seen NoData has a mark above 0, and the others wait for none
  pub await-start : (mark : ℕ) → 0 < mark → {w : List ℕ} → w ≡ tab (rows * cols) (λ x. cond (mapped_at rows cols dir x) 0 mark) → Awaiting rows cols dir w 0
  await-start mark some {w} e =
      let a : (z : ℕ) → z < n → get_or w z 0 ≡ cond (valid z) 0 mark = λ z h. ap (λ (l : List ℕ). get_or l z 0) e ∙ get_or-tab n (λ x. cond (valid x) 0 mark) 0 z h in
      record {
        long = ap length e ∙ length-tab n (λ x. cond (valid x) 0 mark);
        waits = (λ z v. a z ((pointing d).within z v) ∙ ap (λ (b : Bool). cond b 0 mark) v ∙ sym (sum-none (λ u. when (eqb (recv u) z) 1)));
        shut = (λ z h q. ⊎_elim (λ t. t) (λ f. absurd (omega (arith, a z h ∙ ap (λ (b : Bool). cond b 0 mark) f))) (two (valid z)));
      }

  module _ {w : List ℕ} {x : ℕ} (a : Awaiting rows cols dir w x) where
    -- a cell waits for no more than were seen
    pub await-small : {y : ℕ} → y ≡ receiver_of rows cols dir x → y < rows * cols → get_or w y 0 ≤ x
    await-small {y} e h =
        omega (arith, a.waits y (ap valid e ∙ (pointing d).stays x (omega arith)), sum_ones x (λ u. when (eqb (recv u) y) 1) (λ u l. when-under (eqb (recv u) y) 1))

    pub await-off : rows * cols ≤ receiver_of rows cols dir x → Awaiting rows cols dir w (x + 1)
    await-off h =
        record {
          long = a.long;
          waits = (λ z v. omega (arith, a.waits z v, sum_more x (λ u. when (eqb (recv u) z) 1), when-no 1 (ne_eqb (recv x) z (λ e. omega (arith, (pointing d).within z v)))));
          shut = a.shut;
        }

    pub await-on : {y m : ℕ} → y ≡ receiver_of rows cols dir x → y < rows * cols → m ≡ get_or w y 0 + 1 → Awaiting rows cols dir (set w y m) (x + 1)
    await-on {y} {m} e h q =
        record {
          long = length-set w y m ∙ a.long;
          waits = waits;
          shut = (λ z l t. elim (ℕ_discrete z y) [ yes g ↦ ap valid (g ∙ e) ∙ (pointing d).stays x (omega arith) | no g ↦ a.shut z l (sym (get_or-set_other w y z m 0 g) ∙ t) ]);
        }
      where
        waits : (z : ℕ) → valid z ≡ true → get_or (set w y m) z 0 ≡ sum_to (x + 1) (λ u. when (eqb (recv u) z) 1)
        waits z v =
            let s = sum_more x (λ u. when (eqb (recv u) z) 1) in
            elim (ℕ_discrete z y) [
              | yes g ↦ omega (arith, s, a.waits z v, ap (λ (i : ℕ). get_or w i 0) g, ap (λ (i : ℕ). get_or (set w y m) i 0) g, get_or-set_same w y m 0 (omega (arith, a.long)), when-yes 1 (eq-eqb (recv x) z (sym (g ∙ e))))
              | no g ↦ omega (arith, s, a.waits z v, get_or-set_other w y z m 0 g, when-no 1 (ne_eqb (recv x) z (λ t. g (sym (e ∙ t)))))
            ]

  -- the cell x is seen by the one that it points at, if it points at one
  pub await-next : {w : List ℕ} {x : ℕ} → Awaiting rows cols dir w x → {l : List ℕ} → l ≡ set w (receiver_of rows cols dir x) (get_or w (receiver_of rows cols dir x) 0 + 1) → Awaiting rows cols dir l (x + 1)
  await-next {w} {x} a {l} e =
      subst (λ (k : List ℕ). Awaiting rows cols dir k (x + 1)) (sym e)
      (elim (dec_lt (recv x) n) [
        | yes h ↦ await-on a refl h refl
        | no f ↦ subst (λ (k : List ℕ). Awaiting rows cols dir k (x + 1)) (sym (set_past w (recv x) (get_or w (recv x) 0 + 1) (omega (arith, a.long)))) (await-off a (omega arith))
      ])

  pub await-peeled : {w order : List ℕ} → length order ≡ rows * cols → Awaiting rows cols dir w (rows * cols) → Peeled rows cols dir order w 0 0 (rows * cols)
  await-peeled o a = peel-start (pointing d) o a.long a.waits a.shut

  -- ---- taking a cell

  -- with any mark above 0
  module _ (mark : ℕ) (some : 0 < mark) {order w : List ℕ} {p b x : ℕ} (s : Peeled rows cols dir order w p b x) (h : x < rows * cols) where
    -- what cells wait for when x is marked as taken
    abbrev marked : List ℕ
    marked = set w x mark

    pub marked-long : length (set w x mark) ≡ rows * cols
    marked-long = length-set w x mark ∙ s.wide

    marked-here : get_or marked x 0 ≡ mark
    marked-here = get_or-set_same w x mark 0 (omega (arith, s.wide))

    -- where the cell points at none
    pub taken-last : {y hand : ℕ} → y ≡ receiver_of rows cols dir x → rows * cols ≤ y → Onward (rows * cols) b (set w x mark) y hand → Peeled rows cols dir (set order p x) (set w x mark) (p + 1) b hand
    taken-last {y} {hand} e o a = peel-take (pointing d) s h done
      where
        done : Taking n recv w marked b x hand
        done =
            record {
              wide = length-set w x mark;
              shut = omega (arith, marked-here);
              other = (λ z p q. get_or-set_other w x z mark 0 p);
              one = (λ k. absurd (omega arith));
              some = (λ k. absurd (omega (arith, (a.some k).0)));
              none = (λ k l q. absurd (omega arith));
            }

    module _ {y : ℕ} (e : y ≡ receiver_of rows cols dir x) (l : y < rows * cols) where
      apart : y ≡ x → ⊥
      apart q = (pointing d).apart x (omega arith) (sym e ∙ q)

      same : get_or marked y 0 ≡ get_or w (recv x) 0
      same = get_or-set_other w x y mark 0 apart ∙ ap (λ (z : ℕ). get_or w z 0) e

      -- the cell that it points at waits for it
      pub taken-waits : 0 < get_or (set w x mark) y 0
      taken-waits = omega (arith, same, next-waits (pointing d) s h (omega arith))

      -- and then for one less
      pub taken_next : {m hand : ℕ} → m ≡ get_or (set w x mark) y 0 - 1 → Onward (rows * cols) b (set (set w x mark) y m) y hand → Peeled rows cols dir (set order p x) (set (set w x mark) y m) (p + 1) b hand
      taken_next {m} {hand} g a = peel-take (pointing d) s h done
        where
          stored : get_or (set marked y m) y 0 ≡ m
          stored = get_or-set_same marked y m 0 (omega (arith, marked-long))

          there : get_or (set marked y m) (recv x) 0 ≡ m
          there = ap (λ (z : ℕ). get_or (set marked y m) z 0) (sym e) ∙ stored

          done : Taking n recv w (set marked y m) b x hand
          done =
              record {
                wide = length-set marked y m ∙ length-set w x mark;
                shut = omega (arith, get_or-set_other marked y x m 0 (λ q. apart (sym q)), marked-here);
                other = (λ z p q. get_or-set_other marked y z m 0 (λ t. q (t ∙ e)) ∙ get_or-set_other w x z mark 0 p);
                one = (λ k. omega (arith, there, taken-waits, same));
                some = (λ k. let w = a.some k in (w.0 ∙ e, ap (λ (i : ℕ). get_or (set marked y m) i 0) w.0 ∙ w.1));
                none = (λ k l z. a.none (omega arith) (ap (λ (i : ℕ). get_or (set marked y m) i 0) e ∙ z) ∙ e);
              }

  -- a place of the order holds a valid cell
  pub place-valid : {order : List ℕ} {m p x : ℕ} → Downhill rows cols dir order m → p < m → x ≡ get_or order p 0 → mapped_at rows cols dir x ≡ true
  place-valid {order} {m} {p} o h e = ap (mapped_at rows cols dir) e ∙ order-cell o.cells p h

  pub place-cell : {order : List ℕ} {m p x : ℕ} → Downhill rows cols dir order m → p < m → x ≡ get_or order p 0 → x < rows * cols
  place-cell {order} {m} {p} {x} o h e = (pointing d).within x (place-valid o h e)

-- an order has no more places than the grid has cells
pub downhill-few : {rows cols : ℕ} {dir order : List ℕ} {m : ℕ} → Drawn rows cols dir → Downhill rows cols dir order m → m ≤ rows * cols
downhill-few {rows} {cols} {dir} d o =
    omega (arith, order-places o.cells (pointing d).within, sum_ones (rows * cols) (λ x. when (mapped_at rows cols dir x) 1) (λ x l. when-under (mapped_at rows cols dir x) 1))

-- where trails end, every cell is taken
pub peeled-all : {rows cols : ℕ} {dir : List ℕ} → Directed rows cols dir → {order w : List ℕ} {p b : ℕ} → rows * cols ≤ b → Peeled rows cols dir order w p b (rows * cols) → Downhill rows cols dir order p
peeled-all {rows} {cols} {dir} d h s =
    let o = peel-all (pointing d.drawn) s h (omega arith) (λ z r. falling-ringless r (falling d)) in
    let e = order-places o (pointing d.drawn).within in
    record { room = omega (arith, e, s.long, sum_ones (rows * cols) (λ x. when (mapped_at rows cols dir x) 1) (λ x l. when-under (mapped_at rows cols dir x) 1)); cells = o }

-- ---- the first places of an order, alone

taken-stands : (m : ℕ) (order : List ℕ) (j x : ℕ) → j ≤ m → stands_in (take m order) j x ≡ stands_in order j x
unfolding stands_in
taken-stands m order j x h =
    sum-ext j (λ i. when (eqb (get_or (take m order) i 0) x) 1) (λ i. when (eqb (get_or order i 0) x) 1) (λ i l. ap (λ (z : ℕ). when (eqb z x) 1) (get_or-take m order i 0 (omega arith)))

pub downhill-taken : {rows cols : ℕ} {dir order : List ℕ} {m : ℕ} → Downhill rows cols dir order m → Downhill rows cols dir (take m order) (length (take m order))
downhill-taken {rows} {cols} {dir} {order} {m} d =
    let e = length-take-le m order d.room in
    record {
      room = omega arith;
      cells =
          record {
            once = (λ x. ap (λ (n : ℕ). stands_in (take m order) n x) e ∙ taken-stands m order m x (omega arith) ∙ d.cells.once x);
            after = (λ j x h t. omega (arith, taken-stands m order j x (omega arith), d.cells.after j x (omega arith) (t ∙ get_or-take m order j 0 (omega arith))));
          };
    }
