-- Laws of the queue that works out the steps over flats: what a cell that is put into it changes, how it begins, and that no steps can be lowered once it is empty. Assumes nothing.
use Rattle.std.proofs.Common.{◌≡◌, ℕ, ◌+◌, ◌*◌, ◌<◌, ◌≤◌, Bool, true, false, cond, ◌&&◌, ◌||◌, eqb, ltb, ◌⊎◌, List, length, get_or, set, ℤ, pos, sym, refl, ap, ◌∙◌, subst, inl, inr, ⊎_elim, arith, length-set, get_or-set_other, get_or-set_same, below_more, le-ltb}
use native.Mathlib.Decide.{dec_lt, ℕ_discrete}
use Rattle.laws.specs.Settle.{start_of}
use Rattle.laws.proofs.Lists.{in_list, get_or-tab, get_or-tab-past}
use Rattle.laws.proofs.Settle.{kept-active, store_kept, start-kept}
use Rattle.terrain.specs.Cells.{neighbour}
use Rattle.terrain.specs.InnerCells.{Beside, beside_of}
use Rattle.terrain.specs.Flat.{far_steps, flat_at, seen_at, nearest_of, flat_stepping}
use Rattle.terrain.specs.InnerFlats.{Within, StepsKept, StepsStill, Put, queued, dropped, Reached, near, lowered, Waits, Calm, Shores, Wading, Spreading, Waded}
use Rattle.terrain.specs.InnerLevels.{Levels}
use Rattle.terrain.proofs.Neighbours.{across, across-small, neighbour-back, inland-valid}
use Rattle.terrain.proofs.InnerInterior.{beside-room, beside-is}
use Rattle.terrain.proofs.InnerFlooding.{lower-either}
use Rattle.terrain.proofs.Flats.{nearest-none, nearest-more, flat-valid, flat-inland, flat-high, nearest-some, nearest-le, nearest-is, seen_same, seen-level, within-beside, flat-rule}

-- ---- a cell beside one that has 0 steps

shore-seen : (b : Bool) (s : ℕ) → (b && ltb s 1) ≡ ltb (cond b s far_steps) 1
shore-seen true s = refl
shore-seen false s = sym (le-ltb far_steps 1 (omega arith))

module _ (rows cols : ℕ) (lv d : List ℕ) (x : ℕ) where
  pub shore-none : false ≡ ltb (nearest_of rows cols lv d x 0) 1
  shore-none = sym (le-ltb (nearest_of rows cols lv d x 0) 1 (omega (arith, nearest-none rows cols lv d x)))

  pub shore-more : (k : ℕ) {b : Bool} {y : ℕ} → b ≡ ltb (nearest_of rows cols lv d x k) 1 → y ≡ neighbour rows cols x k → (b || (eqb (get_or lv y 0) (get_or lv x 0) && ltb (get_or d y 0) 1)) ≡ ltb (nearest_of rows cols lv d x (k + 1)) 1
  shore-more k {b} {y} e q =
      ap (λ (c : Bool). c || (eqb (get_or lv y 0) (get_or lv x 0) && ltb (get_or d y 0) 1)) e
      ∙ ap (λ (z : ℕ). ltb (nearest_of rows cols lv d x k) 1 || (eqb (get_or lv z 0) (get_or lv x 0) && ltb (get_or d z 0) 1)) q
      ∙ ap (λ (c : Bool). ltb (nearest_of rows cols lv d x k) 1 || c) (shore-seen (eqb (get_or lv (neighbour rows cols x k) 0) (get_or lv x 0)) (get_or d (neighbour rows cols x k) 0))
      ∙ lower-either (nearest_of rows cols lv d x k) (seen_at rows cols lv d x k) 1
      ∙ ap (λ (n : ℕ). ltb n 1) (sym (nearest-more rows cols lv d x k))

-- ---- a cell that waits

waits-more : {q : List ℤ} {from end x : ℕ} (v : ℤ) → Waits q from end x → Waits (set q end v) from (end + 1) x
waits-more {q} {end = end} v w = record { place = w.place; after = w.after; before = omega (arith, w.before); is = get_or-set_other q end w.place v (pos 0) (λ e. omega (arith, w.before)) ∙ w.is }

waits-last : (q : List ℤ) {from end : ℕ} (x : ℕ) → from ≤ end → end < length q → Waits (set q end (pos x)) from (end + 1) x
waits-last q {end = end} x h l = record { place = end; after = h; before = omega arith; is = get_or-set_same q end (pos x) (pos 0) l }

module _ {rows cols : ℕ} {lv : List ℕ} (levels : Levels rows cols lv) where
  abbrev nb : ℕ → ℕ → ℕ
  nb = neighbour rows cols

  -- ---- flat cells

  -- a cell with steps is flat, and all its neighbours are cells of the grid
  pub steps-flat : {d : List ℕ} → StepsKept rows cols lv d → (x : ℕ) → 0 < get_or d x 0 → flat_at rows cols lv x ≡ true
  steps-flat {d} k x h = kept-active (flat_stepping rows cols lv) (Within rows cols lv) d k x h

  pub flat-lt : (x : ℕ) → flat_at rows cols lv x ≡ true → x < rows * cols
  flat-lt x f = omega (arith, in_list lv x (flat-valid rows cols lv x f), levels.long)

  flat_near : (x k : ℕ) → flat_at rows cols lv x ≡ true → k < 8 → neighbour rows cols x k < rows * cols
  flat_near x k f h = omega (arith, in_list lv (nb x k) (inland-valid rows cols lv x k (flat-valid rows cols lv x f) (flat-inland rows cols lv x f).1 h), levels.long)

  pub flat-beside : (x k : ℕ) → flat_at rows cols lv x ≡ true → k < 8 → Beside cols x k
  flat-beside x k f h = beside-room rows cols x k levels.sized (omega (arith, flat-lt x f, levels.sized.small)) h (flat_near x k f h)

  flat-is-beside : (x k : ℕ) → flat_at rows cols lv x ≡ true → k < 8 → beside_of cols x k ≡ neighbour rows cols x k
  flat-is-beside x k f h = beside-is rows cols x k (flat_near x k f h)

  -- the cell that `beside` gives for the bearing k
  pub flat-lands : (x k : ℕ) {y : ℕ} → flat_at rows cols lv x ≡ true → k < 8 → y ≡ beside_of cols x k → (y ≡ neighbour rows cols x k) × (y < rows * cols)
  flat-lands x k f h e = (e ∙ flat-is-beside x k f h, omega (arith, e, flat-is-beside x k f h, flat_near x k f h))

  -- flat neighbours have one level: neither is lower
  flat-same : (x k : ℕ) → flat_at rows cols lv x ≡ true → k < 8 → flat_at rows cols lv (nb x k) ≡ true → get_or lv (nb x k) 0 ≡ get_or lv x 0
  flat-same x k f h g =
      let b = neighbour-back rows cols x k (flat-lt x f) h (flat_near x k f h) in
      omega (arith, flat-high rows cols lv x k f h, flat-high rows cols lv (nb x k) (across k) g (across-small k h), ap (λ (z : ℕ). get_or lv z 0) b)

  -- ---- a cell whose steps are lowered

  -- any other cell stays calm
  calm_set : (d : List ℕ) {n y : ℕ} → n < get_or d y 0 → (z : ℕ) → (z ≡ y → ⊥) → Calm rows cols lv d z → Calm rows cols lv (set d y n) z
  calm_set d {n} {y} h z f c k l e =
      let own = get_or-set_other d y z n 0 f in
      elim (ℕ_discrete (nb z k) y) [
        | yes q ↦ omega (arith, c k l e, own, ap (λ (i : ℕ). get_or d i 0) q, ap (λ (i : ℕ). get_or (set d y n) i 0) q, get_or-set_same d y n 0 (in_list d y (omega arith)))
        | no g ↦ omega (arith, c k l e, own, get_or-set_other d y (nb z k) n 0 g)
      ]

  put-wading : {d d' : List ℕ} {q q' : List ℤ} {from end e x n y : ℕ} → Wading rows cols lv d q from end x → 0 < n → n < get_or d y 0 → Within rows cols lv y n → Put d q end n y d' q' e → Wading rows cols lv d' q' from e x
  put-wading {d} {q = q} {from = from} {end = end} {x = x} {n = n} {y = y} w some less stands p = go p
    where
      inside : y < length d
      inside = in_list d y (omega arith)

      keeps : StepsKept rows cols lv (set d y n)
      keeps = store_kept (flat_stepping rows cols lv) (Within rows cols lv) d w.kept y n less stands

      none : (z : ℕ) → get_or (set d y n) z 0 ≡ 0 → z ≡ y → ⊥
      none z e q = omega (arith, ap (λ (i : ℕ). get_or (set d y n) i 0) q, get_or-set_same d y n 0 inside)

      shores : (z : ℕ) → z < rows * cols → get_or (set d y n) z 0 ≡ 0 → Calm rows cols lv (set d y n) z
      shores z l e = calm_set d less z (none z e) (w.shore z l (sym (get_or-set_other d y z n 0 (none z e)) ∙ e))

      go : {d' : List ℕ} {q' : List ℤ} {e : ℕ} → Put d q end n y d' q' e → Wading rows cols lv d' q' from e x
      go (queued l) =
          record {
            kept = keeps;
            begun = omega (arith, w.begun);
            fits = omega (arith, length-set q end (pos y));
            shore = shores;
            due = (λ room z some not. elim (ℕ_discrete z y) [
              | yes g ↦ inl (subst (Waits (set q end (pos y)) from (end + 1)) (sym g) (waits-last q y w.begun l))
              | no g ↦ ⊎_elim (λ v. inl (waits-more (pos y) v)) (λ c. inr (calm_set d less z g c)) (w.due l z (omega (arith, get_or-set_other d y z n 0 g)) not)
            ]);
          }
      go (dropped l) = record { kept = keeps; begun = w.begun; fits = w.fits; shore = shores; due = (λ room z some not. absurd (omega arith)) }

  -- ---- the cells one step from where their flats end

  pub shores-none : {d : List ℕ} (q : List ℤ) → d ≡ start_of (flat_stepping rows cols lv) → Shores rows cols lv d q 0 0
  shores-none {d} q e =
      record {
        kept = subst (StepsKept rows cols lv) (sym e) (start-kept (flat_stepping rows cols lv) (Within rows cols lv) (flat-rule rows cols lv levels.long));
        fits = omega arith;
        few = (λ z. either z);
        due = (λ room z o. absurd (⊎_elim (λ h. omega arith) (λ h. omega arith) (far z)));
        passed = (λ z h. absurd (omega arith));
      }
    where
      pick : (b : Bool) → (cond b far_steps 0 ≡ 0) ⊎ (cond b far_steps 0 ≡ far_steps)
      pick true = inr refl
      pick false = inl refl

      far : (z : ℕ) → (get_or d z 0 ≡ 0) ⊎ (get_or d z 0 ≡ far_steps)
      far z =
          let t = ap (λ (l : List ℕ). get_or l z 0) e in
          elim (dec_lt z (rows * cols)) [
            | yes h ↦ ⊎_elim (λ p. inl (t ∙ get_or-tab (rows * cols) _ 0 z h ∙ p)) (λ p. inr (t ∙ get_or-tab (rows * cols) _ 0 z h ∙ p)) (pick (flat_at rows cols lv z))
            | no f ↦ inl (t ∙ get_or-tab-past (rows * cols) _ 0 z (omega arith))
          ]

      either : (z : ℕ) → (get_or d z 0 ≤ 1) ⊎ (get_or d z 0 ≡ far_steps)
      either z = ⊎_elim (λ h. inl (omega arith)) inr (far z)

  -- a cell that is not far, or that is beside none with 0 steps, is passed
  pub shores-near : {d : List ℕ} {q : List ℤ} {end x : ℕ} → Shores rows cols lv d q end x → get_or d x 0 < far_steps → Shores rows cols lv d q end (x + 1)
  shores-near {x = x} s h = record { kept = s.kept; fits = s.fits; few = s.few; due = s.due; passed = below_more _ x s.passed (⊎_elim inl (λ e. absurd (omega arith)) (s.few x)) }

  pub shores-past : {d : List ℕ} {q : List ℤ} {end x : ℕ} → Shores rows cols lv d q end x → 0 < nearest_of rows cols lv d x 8 → Shores rows cols lv d q end (x + 1)
  shores-past {x = x} s h = record { kept = s.kept; fits = s.fits; few = s.few; due = s.due; passed = below_more _ x s.passed (inr h) }

  -- any other is put into the queue with one step
  pub shores-put : {d d' : List ℕ} {q q' : List ℤ} {end e x : ℕ} → Shores rows cols lv d q end x → far_steps ≤ get_or d x 0 → nearest_of rows cols lv d x 8 ≡ 0 → Put d q end 1 x d' q' e → Shores rows cols lv d' q' e (x + 1)
  shores-put {d} {q = q} {end = end} {x = x} s far zero p = go p
    where
      inside : x < length d
      inside = in_list d x (omega arith)

      one : get_or (set d x 1) x 0 ≡ 1
      one = get_or-set_same d x 1 0 inside

      stands : Within rows cols lv x 1
      stands = subst (Within rows cols lv x) (ap (λ (n : ℕ). n + 1) zero) ((flat-rule rows cols lv levels.long).fair d s.kept x (steps-flat s.kept x (omega arith)) (omega arith))

      keeps : StepsKept rows cols lv (set d x 1)
      keeps = store_kept (flat_stepping rows cols lv) (Within rows cols lv) d s.kept x 1 (omega arith) stands

      fewer : (z : ℕ) → (get_or (set d x 1) z 0 ≤ 1) ⊎ (get_or (set d x 1) z 0 ≡ far_steps)
      fewer z = elim (ℕ_discrete z x) [ yes g ↦ inl (omega (arith, ap (λ (i : ℕ). get_or (set d x 1) i 0) g, one)) | no g ↦ rw (get_or-set_other d x z 1 0 g) (s.few z) ]

      some : (z : ℕ) → 0 < get_or d z 0 → 0 < get_or (set d x 1) z 0
      some z h = elim (ℕ_discrete z x) [ yes g ↦ omega (arith, ap (λ (i : ℕ). get_or (set d x 1) i 0) g, one) | no g ↦ omega (arith, get_or-set_other d x z 1 0 g) ]

      beyond : (z : ℕ) → z < x → (get_or (set d x 1) z 0 ≤ 1) ⊎ (0 < nearest_of rows cols lv (set d x 1) z 8)
      beyond z h = ⊎_elim (λ l. inl (omega (arith, get_or-set_other d x z 1 0 (λ e. omega arith)))) (λ l. inr (nearest-some rows cols lv d (set d x 1) z 8 some l)) (s.passed z h)

      passes : (z : ℕ) → z < x + 1 → (get_or (set d x 1) z 0 ≤ 1) ⊎ (0 < nearest_of rows cols lv (set d x 1) z 8)
      passes = below_more _ x beyond (inl (omega (arith, one)))

      go : {d' : List ℕ} {q' : List ℤ} {e : ℕ} → Put d q end 1 x d' q' e → Shores rows cols lv d' q' e (x + 1)
      go (queued l) =
          record {
            kept = keeps;
            fits = omega (arith, length-set q end (pos x));
            few = fewer;
            due = (λ room z o. elim (ℕ_discrete z x) [
              | yes g ↦ subst (Waits (set q end (pos x)) 0 (end + 1)) (sym g) (waits-last q x (omega arith) l)
              | no g ↦ waits-more (pos x) (s.due l z (sym (get_or-set_other d x z 1 0 g) ∙ o))
            ]);
            passed = passes;
          }
      go (dropped l) = record { kept = keeps; fits = s.fits; few = fewer; due = (λ room z o. absurd (omega arith)); passed = passes }

  -- with all cells passed the queue is ready: beside a cell of 0 steps none of its level has more than one
  pub shores-all : {d : List ℕ} {q : List ℤ} {end x : ℕ} → Shores rows cols lv d q end x → rows * cols ≤ x → Wading rows cols lv d q 0 end (rows * cols)
  shores-all {d} {x = x} s all = record { kept = s.kept; begun = omega arith; fits = s.fits; shore = shores; due = (λ room z some not. ⊎_elim (λ l. inl (s.due room z (omega arith))) (λ f. inr (λ k h e. omega (arith, s.kept.capped (nb z k)))) (s.few z)) }
    where
      beside : (z k : ℕ) → z < rows * cols → get_or d z 0 ≡ 0 → k < 8 → get_or lv (nb z k) 0 ≡ get_or lv z 0 → nb z k < rows * cols → get_or d (nb z k) 0 ≤ 1
      beside z k l o h e n =
          let b = neighbour-back rows cols z k l h n in
          let t = ap (λ (i : ℕ). get_or lv i 0) b in
          ⊎_elim (λ le. le)
          (λ some. absurd (omega (arith, nearest-le rows cols lv d (nb z k) (across k) 8 (across-small k h), seen_same rows cols lv d (nb z k) (across k) (t ∙ sym e), ap (λ (i : ℕ). get_or d i 0) b)))
          (s.passed (nb z k) (omega arith))

      shores : (z : ℕ) → z < rows * cols → get_or d z 0 ≡ 0 → Calm rows cols lv d z
      shores z l o k h e = elim (dec_lt (nb z k) (rows * cols)) [ yes n ↦ omega (arith, beside z k l o h e n) | no n ↦ omega (arith, past n) ]
        where
          past : (nb z k < rows * cols → ⊥) → get_or d (nb z k) 0 ≡ 0
          past n = elim (ℕ_discrete (get_or d (nb z k) 0) 0) [ yes q ↦ q | no q ↦ absurd (n (omega (arith, in_list d (nb z k) (omega arith), s.kept.long))) ]

  -- ---- the cell in hand

  -- the cell at the first place that waits is taken in hand
  pub wading-take : {d : List ℕ} {q : List ℤ} {from end x : ℕ} → Wading rows cols lv d q from end (rows * cols) → from < end → ((z : ℕ) → z < 1048576 → get_or q from (pos 0) ≡ pos z → x ≡ z) → Wading rows cols lv d q (from + 1) end x
  wading-take {d} {q} {from} {end} {x} w l f = record { kept = w.kept; begun = omega arith; fits = w.fits; shore = w.shore; due = dues }
    where
      later : (z : ℕ) → z < 1048576 → (z ≡ x → ⊥) → Waits q from end z → Waits q (from + 1) end z
      later z small not v =
          elim (ℕ_discrete v.place from) [
            | yes e ↦ absurd (not (sym (f z small (ap (λ (i : ℕ). get_or q i (pos 0)) (sym e) ∙ v.is))))
            | no g ↦ record { place = v.place; after = omega (arith, v.after); before = v.before; is = v.is }
          ]

      dues : end < length q → (z : ℕ) → 0 < get_or d z 0 → (z ≡ x → ⊥) → Waits q (from + 1) end z ⊎ Calm rows cols lv d z
      dues room z some not = ⊎_elim (λ v. inl (later z (omega (arith, in_list d z some, w.kept.long, levels.sized.small)) not v)) inr (w.due room z some (λ e. omega (arith, in_list d z some, w.kept.long)))

  -- a cell with no steps was no flat one
  pub wading-none : {d : List ℕ} {q : List ℤ} {from end x : ℕ} → Wading rows cols lv d q from end x → get_or d x 0 ≡ 0 → Wading rows cols lv d q from end (rows * cols)
  wading-none {d} {x = x} w o = record { kept = w.kept; begun = w.begun; fits = w.fits; shore = w.shore; due = (λ room z some not. w.due room z some (λ e. omega (arith, ap (λ (i : ℕ). get_or d i 0) e))) }

  -- its neighbours are reached, bearing by bearing
  pub spreading-none : {d : List ℕ} {q : List ℤ} {from end n x : ℕ} → Wading rows cols lv d q from end x → 0 < get_or d x 0 → n ≡ get_or d x 0 + 1 → Spreading rows cols lv d q from end n x 0
  spreading-none {x = x} w some e = record { wading = w; flat = steps-flat w.kept x some; own = e; reached = (λ j h. absurd (omega arith)) }

  pub spreading-more : {d d' : List ℕ} {q q' : List ℤ} {from end e n x y k : ℕ} → Spreading rows cols lv d q from end n x k → k < 8 → y ≡ neighbour rows cols x k → Reached d q end n y d' q' e → Spreading rows cols lv d' q' from e n x (k + 1)
  spreading-more {d} {q = q} {from = from} {end = end} {n = n} {x = x} {y = y} {k = k} s h ey r = go r
    where
      lies : y < rows * cols
      lies = omega (arith, flat_near x k s.flat h)

      back : neighbour rows cols y (across k) ≡ x
      back = ap (λ (z : ℕ). neighbour rows cols z (across k)) ey ∙ neighbour-back rows cols x k (flat-lt x s.flat) h (flat_near x k s.flat h)

      stands : n < get_or d y 0 → Within rows cols lv y n
      stands less =
          let f = steps-flat s.wading.kept y (omega arith) in
          let t = ap (λ (z : ℕ). get_or d z 0) back in
          let same : get_or lv y 0 ≡ get_or lv x 0 = ap (λ (z : ℕ). get_or lv z 0) ey ∙ flat-same x k s.flat h (rw ey at f) in
          within-beside rows cols lv d s.wading.kept y (across k) n (flat-valid rows cols lv y f) (across-small k h) (ap (λ (z : ℕ). get_or lv z 0) back ∙ sym same) (omega (arith, s.own, s.wading.kept.capped y)) (omega (arith, s.own))

      lower : (z : ℕ) → n < get_or d y 0 → get_or (set d y n) z 0 ≤ get_or d z 0
      lower z less = elim (ℕ_discrete z y) [ yes g ↦ omega (arith, ap (λ (i : ℕ). get_or d i 0) g, ap (λ (i : ℕ). get_or (set d y n) i 0) g, get_or-set_same d y n 0 (in_list d y (omega arith))) | no g ↦ omega (arith, get_or-set_other d y z n 0 g) ]

      owns : n < get_or d y 0 → n ≡ get_or (set d y n) x 0 + 1
      owns less = s.own ∙ ap (λ (i : ℕ). i + 1) (sym (get_or-set_other d y x n 0 (λ e. omega (arith, ap (λ (i : ℕ). get_or d i 0) e, s.own))))

      last : {d' : List ℕ} {q' : List ℤ} {e : ℕ} → n < get_or d y 0 → Put d q end n y d' q' e → d' ≡ set d y n
      last less (queued l) = refl
      last less (dropped l) = refl

      go : {d' : List ℕ} {q' : List ℤ} {e : ℕ} → Reached d q end n y d' q' e → Spreading rows cols lv d' q' from e n x (k + 1)
      go (near l) = record { wading = s.wading; flat = s.flat; own = s.own; reached = below_more _ k s.reached (λ e. omega (arith, ap (λ (i : ℕ). get_or d i 0) ey)) }
      go {d'} (lowered less p) =
          let i = last less p in
          record {
            wading = put-wading s.wading (omega (arith, s.own)) less (stands less) p;
            flat = s.flat;
            own = rw i (owns less);
            reached = rw i (below_more _ k (λ j l e. omega (arith, s.reached j l e, lower (nb x j) less)) (λ e. omega (arith, ap (λ (z : ℕ). get_or (set d y n) z 0) ey, get_or-set_same d y n 0 (in_list d y (omega arith)))));
          }

  -- and then it is calm
  pub spreading-all : {d : List ℕ} {q : List ℤ} {from end n x k : ℕ} → Spreading rows cols lv d q from end n x k → 8 ≤ k → Wading rows cols lv d q from end (rows * cols)
  spreading-all {d} {x = x} s h =
      record {
        kept = s.wading.kept;
        begun = s.wading.begun;
        fits = s.wading.fits;
        shore = s.wading.shore;
        due = (λ room z some not. elim (ℕ_discrete z x) [
          | yes e ↦ inr (subst (Calm rows cols lv d) (sym e) (λ j l q. omega (arith, s.own, s.reached j (omega arith) q)))
          | no f ↦ s.wading.due room z some f
        ]);
      }

  -- ---- the end

  -- once nothing waits no steps can be lowered
  wading-still : {d : List ℕ} {q : List ℤ} {from end : ℕ} → Wading rows cols lv d q from end (rows * cols) → end ≤ from → end < length q → StepsStill rows cols lv d
  wading-still {d} {q} {from} {end} w none room x f = elim (dec_lt (nearest_of rows cols lv d x 8) far_steps) [ yes l ↦ beside l | no g ↦ omega (arith, w.kept.capped x) ]
    where
      calm : (z : ℕ) → z < rows * cols → Calm rows cols lv d z
      calm z l =
          elim (ℕ_discrete (get_or d z 0) 0) [
            | yes o ↦ w.shore z l o
            | no g ↦ ⊎_elim (λ v. absurd (omega (arith, v.after, v.before))) (λ c. c) (w.due room z (omega arith) (λ e. omega arith))
          ]

      beside : nearest_of rows cols lv d x 8 < far_steps → get_or d x 0 ≤ nearest_of rows cols lv d x 8 + 1
      beside l =
          let i = nearest-is rows cols lv d x 8 l in
          let e = seen-level rows cols lv d x i.0 (omega (arith, i.2)) in
          let n = flat_near x i.0 f i.1 in
          let b = neighbour-back rows cols x i.0 (flat-lt x f) i.1 n in
          omega (arith, calm (nb x i.0) n (across i.0) (across-small i.0 i.1) (ap (λ (z : ℕ). get_or lv z 0) b ∙ sym e), ap (λ (z : ℕ). get_or d z 0) b, i.2, seen_same rows cols lv d x i.0 e)

  pub waded : {d : List ℕ} {q : List ℤ} {from end room : ℕ} → Wading rows cols lv d q from end (rows * cols) → end ≤ from → length q ≡ room → Waded rows cols lv d room end
  waded w none e = record { kept = w.kept; still = (λ less. wading-still w none (omega arith)) }
