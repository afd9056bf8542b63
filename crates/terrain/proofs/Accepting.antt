-- Laws for the reader of RULES 4.7: a given grid is accepted exactly if every code is right and no trail goes round; 17 names the first cell whose code is not right, 18 the
-- first that lies on a ring. Assumes nothing.
use Rattle.std.proofs.Common.{◌≡◌, ℕ, zero, suc, ◌-◌, ◌*◌, ◌<◌, ◌≤◌, true, false, not, ◌&&◌, List, [], ◌∷◌, get_or, ℤ, sym, refl, ap, ◌∙◌, subst, ap₂, inl, inr, ⊎_elim, true≢false, arith, ltb-false, ltb-true, eq-eqb, le-leb}
use native.Mathlib.Decide.{dec_lt}
use borrow.Author.Tests.{not-true, not-false}
use Rattle.laws.specs.Tests.{Test, passed, failed, verdict}
use Rattle.laws.specs.Rings.{walk_to}
use Rattle.laws.proofs.Tests.{two}
use Rattle.laws.proofs.First.{first_holds, first-before}
use Rattle.laws.proofs.Rings.{walk_none, walk_first, ring-inside}
use Rattle.laws.proofs.Verdicts.{verdict-next, verdict-stops, verdict-none, verdict-passed, OfNumber}
use Rattle.terrain.specs.Cells.{no_data, neighbour, code_of, bearing_of, Valid, levels_of, valid_at}
use Rattle.terrain.specs.Filled.{filled_levels, filled_of}
use Rattle.terrain.specs.Trail.{flows_at, receiver_of}
use Rattle.terrain.specs.Drainage.{surface_of}
use Rattle.terrain.specs.Given.{kept_at, first_broken, ring_at, first_ring, code_test, ring_test, given_tests}
use Rattle.terrain.specs.Drawing.{Right, Leads, once, more, GoesRound, Acceptable}
use Rattle.terrain.specs.Answers.{Grids, ground_judged, judged, ground_directions, leaves_zeros}
use Rattle.terrain.specs.InnerCells.{Ready}
use Rattle.terrain.specs.InnerTrail.{Drawn}
use Rattle.terrain.specs.InnerGiven.{Keeping}
use Rattle.terrain.specs.declared.Source.TheVariants.{Given}
use Rattle.terrain.proofs.Neighbours.{level-le, level-invalid}
use Rattle.terrain.proofs.Filling.{filled-valid, level-filled}
use Rattle.terrain.proofs.Surfaces.{filled-le}
use Rattle.terrain.proofs.Trails.{code-flows, code-next, flows-code, flows-mapped, receiver-flows, receiver-points}
use Rattle.terrain.proofs.Receivers.{pointing}
use Rattle.terrain.proofs.Rings.{back-ring, ring-is, is-ring}
use Rattle.terrain.proofs.Keeping.{kept-none, kept_leaves, kept-points, has-none, has-nine, has-aim, has-fall, has-rim, code-kept, kept-keeping, code-passes, code-fails, ring-passes, ring-fails, ring-none, given-passes}
use Rattle.terrain.proofs.Owning.{own-levels, own-accepted}
use Rattle.terrain.proofs.Answers.{Early, ground-number, passed-ready, passed-room, passed-parts, judged-before, judged-after}
use Rattle.terrain.proofs.Reading.{Same, filled-same, rim-same}

-- ---- rings

module _ {rows cols : ℕ} {dir : List ℕ} (d : Drawn rows cols dir) where
  abbrev recv : ℕ → ℕ
  recv = receiver_of rows cols dir

  abbrev bearing : ℕ → ℕ
  bearing x = bearing_of (get_or dir x 255)

  recv-next : (x : ℕ) → flows_at rows cols dir x ≡ true → recv x ≡ neighbour rows cols x (bearing x)
  recv-next x q = let c = flows-code rows cols dir x q in receiver-flows rows cols dir x q ∙ code-next rows cols dir x (bearing x) c.0 c.1

  -- a walk within the grid leads on, and what leads on is a walk
  walk-leads : (m x z : ℕ) → ((i : ℕ) → i ≤ m → walk_to recv (suc i) x < rows * cols) → walk_to recv (suc m) x ≡ z → Leads rows cols dir x z
  walk-leads zero x z h e =
      let q = receiver-points rows cols dir x (omega (arith, h 0 (omega arith), walk_first recv 0 x, walk_none recv (recv x))) in
      let c = flows-code rows cols dir x q in
      subst (Leads rows cols dir x) (sym (recv-next x q) ∙ sym (walk_none recv (recv x)) ∙ sym (walk_first recv 0 x) ∙ e) (once x (bearing x) c.0 c.1)
  walk-leads (suc m) x z h e =
      let q = receiver-points rows cols dir x (omega (arith, h 0 (omega arith), walk_first recv 0 x, walk_none recv (recv x))) in
      let c = flows-code rows cols dir x q in
      more x (bearing x) z c.0 c.1
      (subst (λ (y : ℕ). Leads rows cols dir y z) (recv-next x q)
      (walk-leads m (recv x) z (λ i l. omega (arith, h (suc i) (omega arith), walk_first recv (suc i) x)) (sym (walk_first recv (suc m) x) ∙ e)))

  code-recv : (x k : ℕ) → k < 8 → get_or dir x 255 ≡ code_of k → recv x ≡ neighbour rows cols x k
  code-recv x k h e = receiver-flows rows cols dir x (code-flows rows cols dir x k h e) ∙ code-next rows cols dir x k h e

  leads-walk : {x z : ℕ} → Leads rows cols dir x z → (m : ℕ) × (walk_to recv (suc m) x ≡ z)
  leads-walk (once x k h e) = (0, walk_first recv 0 x ∙ walk_none recv (recv x) ∙ code-recv x k h e)
  leads-walk (more x k z h e l) =
      let w = leads-walk l in
      (suc w.0, walk_first recv (suc w.0) x ∙ ap (walk_to recv (suc w.0)) (code-recv x k h e) ∙ w.1)

  leads-in : {x z : ℕ} → Leads rows cols dir x z → x < rows * cols
  leads-in (once x k h e) = (pointing d).within x (flows-mapped rows cols dir x (code-flows rows cols dir x k h e))
  leads-in (more x k z h e l) = (pointing d).within x (flows-mapped rows cols dir x (code-flows rows cols dir x k h e))

  -- a cell on a ring, as it is computed, is one whose trail goes round
  pub ring-round : (x : ℕ) → ring_at rows cols dir x ≡ true → GoesRound rows cols dir x
  ring-round x e =
      let r = ring-is d x e in
      let s : suc (r.steps - 1) ≡ r.steps = omega (arith, r.some) in
      walk-leads (r.steps - 1) x x (λ i l. ring-inside r (suc i) (omega (arith, r.some))) (ap (λ (j : ℕ). walk_to recv j x) s ∙ r.back)

  pub round-ring : (x : ℕ) → GoesRound rows cols dir x → ring_at rows cols dir x ≡ true
  round-ring x l = let w = leads-walk l in is-ring d x (back-ring d w.0 x (leads-in l) w.1)

-- ---- one code

module _ (rows cols : ℕ) (elevation : List ℤ) (dir : List ℕ) (ready : Ready rows cols elevation) where
  abbrev lv : List ℕ
  lv = filled_levels rows cols elevation

  abbrev height : ℕ → ℤ
  height = surface_of (filled_of rows cols elevation)

  valid-is : (x : ℕ) → Valid elevation x → valid_at lv x ≡ true
  valid-is x = (filled-same rows cols elevation ready x).1

  is-valid : (x : ℕ) → valid_at lv x ≡ true → Valid elevation x
  is-valid x = (filled-same rows cols elevation ready x).0

  invalid-is : (x : ℕ) → get_or elevation x no_data ≡ no_data → valid_at lv x ≡ false
  invalid-is x e = ⊎_elim (λ v. absurd (is-valid x v e)) (λ v. v) (two (valid_at lv x))

  is-invalid : (x : ℕ) → valid_at lv x ≡ false → get_or elevation x no_data ≡ no_data
  is-invalid x v = level-invalid ready x (omega (arith, ltb-false 0 (get_or (levels_of elevation) x 0) (sym (filled-valid rows cols elevation ready x) ∙ v)))

  kept-right : (x : ℕ) → kept_at rows cols lv dir x ≡ true → Right rows cols elevation (filled_of rows cols elevation) dir x
  kept-right x k =
      record {
        no-data = (λ e. has-none rows cols lv dir x k (invalid-is x e));
        nine = (λ v.
            ⊎_elim (λ q. let c = flows-code rows cols dir x q in inr (bearing_of (get_or dir x 255), c.0, c.1)) (λ q. inl (has-nine rows cols lv dir x k (valid-is x v) q))
            (two (flows_at rows cols dir x)));
        aim = aims;
        fall = (λ j h e.
            let q = has-fall rows cols lv dir x k (code-flows rows cols dir x j h e) in
            filled-le rows cols elevation ready (neighbour rows cols x j) (aims j h e) (height x)
            (omega (arith, q, ap (λ (y : ℕ). get_or lv y 0) (code-next rows cols dir x j h e), level-filled rows cols elevation ready x)));
        rim = (λ e. (rim-same rows cols elevation ready x).0 (has-rim rows cols lv dir x k e));
      }
    where
      aims : (j : ℕ) → j < 8 → get_or dir x 255 ≡ code_of j → Valid elevation (neighbour rows cols x j)
      aims j h e =
          is-valid (neighbour rows cols x j) (ap (valid_at lv) (sym (code-next rows cols dir x j h e)) ∙ has-aim rows cols lv dir x k (code-flows rows cols dir x j h e))

  right_kept : (x : ℕ) → Right rows cols elevation (filled_of rows cols elevation) dir x → kept_at rows cols lv dir x ≡ true
  right_kept x r = ⊎_elim valid none (two (valid_at lv x))
    where
      points : (k : ℕ) → 0 < get_or lv x 0 → k < 8 → get_or dir x 255 ≡ code_of k → kept_at rows cols lv dir x ≡ true
      points k v h e =
          let y = neighbour rows cols x k in
          kept-points rows cols lv dir x k v h e
          ∙ ap₂ ◌&&◌ (valid-is y (r.aim k h e))
          (le-leb (get_or lv y 0) (get_or lv x 0) (omega (arith, level-le (height y) (height x) (r.fall k h e), level-filled rows cols elevation ready y, level-filled rows cols elevation ready x)))

      valid : valid_at lv x ≡ true → kept_at rows cols lv dir x ≡ true
      valid v =
          let l = ltb-true 0 (get_or lv x 0) v in
          ⊎_elim (λ e. kept_leaves rows cols lv dir x l e ∙ (rim-same rows cols elevation ready x).1 (r.rim e)) (λ p. points p.0 l p.1 p.2) (r.nine (is-valid x v))

      none : valid_at lv x ≡ false → kept_at rows cols lv dir x ≡ true
      none v = kept-none rows cols lv dir x (omega (arith, ltb-false 0 (get_or lv x 0) v)) ∙ eq-eqb (get_or dir x 255) 255 (r.no-data (is-invalid x v))

-- ---- the call

module _ (rows cols : ℕ) (elevation : List ℤ) (g : Grids) where
  abbrev given : List ℕ
  given = g.direction

  abbrev levels : List ℕ
  levels = filled_levels rows cols elevation

  module _ (e : ground_judged rows cols elevation g ≡ passed) where
    ready : Ready rows cols elevation
    ready = passed-ready rows cols elevation g e

    keeping : ((x : ℕ) → x < rows * cols → kept_at rows cols levels given x ≡ true) → Keeping rows cols levels given
    keeping = kept-keeping rows cols levels given (own-levels rows cols elevation ready) (passed-room rows cols elevation g e).direction-long

    passed-acceptable : verdict (given_tests rows cols levels given) ≡ passed → Acceptable rows cols elevation (filled_of rows cols elevation) given
    passed-acceptable q =
        let w = verdict-passed (code_test rows cols levels given) (ring_test rows cols given ∷ []) q in
        let kept = code-kept rows cols levels given w.0 in
        let d = (keeping kept).drawn in
        let none = ring-none rows cols given (verdict-passed (ring_test rows cols given) [] w.1).0 in
        record {
          right = (λ x h. kept-right rows cols elevation given ready x (kept x h));
          ringless = (λ x l. true≢false (sym (round-ring d x l) ∙ none x (leads-in d l)));
        }

    acceptable-passed : Acceptable rows cols elevation (filled_of rows cols elevation) given → verdict (given_tests rows cols levels given) ≡ passed
    acceptable-passed a =
        let kept : (x : ℕ) → x < rows * cols → kept_at rows cols levels given x ≡ true = (λ x h. right_kept rows cols elevation given ready x (a.right x h)) in
        let d = (keeping kept).drawn in
        given-passes rows cols levels given kept (λ x h. ⊎_elim (λ t. absurd (a.ringless x (ring-round d x t))) (λ t. t) (two (ring_at rows cols given x)))

  -- given directions are accepted exactly if the ground is, every code is right and no trail goes round
  pub accepted-exactly : Same (judged rows cols Given elevation g ≡ passed) ((ground_judged rows cols elevation g ≡ passed) × Acceptable rows cols elevation (filled_of rows cols elevation) g.direction)
  accepted-exactly = (
    (λ e. let p = passed-parts rows cols Given elevation g e in (p.0, passed-acceptable p.0 p.1)),
    (λ p. judged-after rows cols Given elevation g p.0 ∙ acceptable-passed p.0 p.1),
  )

  -- our own directions are accepted where they are given back
  pub own_back : ground_judged rows cols elevation g ≡ passed → g.direction ≡ ground_directions rows cols elevation → judged rows cols Given elevation g ≡ passed
  own_back e q =
      judged-after rows cols Given elevation g e ∙ ap (λ (d : List ℕ). verdict (given_tests rows cols levels d)) q
      ∙ own-accepted rows cols elevation (ready e)

  -- ---- the places of 17 and 18

  -- such a refusal comes after the tests of the ground
  late-ground : {number place : ℕ} → leaves_zeros number ≡ true → judged rows cols Given elevation g ≡ failed number place → ground_judged rows cols elevation g ≡ passed
  late-ground {number} {place} late e = go (ground_judged rows cols elevation g) (ground-number rows cols elevation g) (λ n p q. judged-before rows cols Given elevation g q)
    where
      go : (t : Test) → OfNumber Early t → ((n p : ℕ) → t ≡ failed n p → judged rows cols Given elevation g ≡ failed n p) → t ≡ passed
      go passed early before = refl
      go (failed n p) early before =
          let q : n ≡ number = cc (before n p refl, e) in
          absurd (true≢false (sym late ∙ ap leaves_zeros (sym q) ∙ early))

  -- 17: the first cell whose code is not right
  pub code-place : {p : ℕ} → judged rows cols Given elevation g ≡ failed 17 p → (Right rows cols elevation (filled_of rows cols elevation) g.direction p → ⊥) × ((x : ℕ) → x < p → Right rows cols elevation (filled_of rows cols elevation) g.direction x)
  unfolding first_broken
  code-place {p} e = elim (dec_lt (first_broken rows cols levels given) (rows * cols)) [ yes h ↦ broken h | no f ↦ absurd (kept f) ]
    where
      over : ground_judged rows cols elevation g ≡ passed
      over = late-ground refl e

      q : verdict (given_tests rows cols levels given) ≡ failed 17 p
      q = sym (judged-after rows cols Given elevation g over) ∙ e

      broken : first_broken rows cols levels given < rows * cols → (Right rows cols elevation (filled_of rows cols elevation) given p → ⊥) × ((x : ℕ) → x < p → Right rows cols elevation (filled_of rows cols elevation) given x)
      broken h =
          let s : p ≡ first_broken rows cols levels given = cc (q, verdict-stops (ring_test rows cols given ∷ []) (code-fails rows cols levels given h)) in
          let r = ready over in
          let t = first_holds (λ y. not (kept_at rows cols levels given y)) (rows * cols) h in (
            (λ a. true≢false (sym (right_kept rows cols elevation given r p a) ∙ ap (kept_at rows cols levels given) s ∙ not-true (kept_at rows cols levels given (first_broken rows cols levels given)) t)),
            (λ x l. kept-right rows cols elevation given r x (not-false (kept_at rows cols levels given x) (first-before (λ y. not (kept_at rows cols levels given y)) (rows * cols) x (omega (arith, l, s))))),
          )

      kept : (first_broken rows cols levels given < rows * cols → ⊥) → ⊥
      kept f =
          elim (dec_lt (first_ring rows cols given) (rows * cols)) [
            | yes h ↦ let z : ◌≡◌ {A = ℕ} 17 18 = cc (q, verdict-next (ring_test rows cols given ∷ []) (code-passes rows cols levels given (omega arith)) ∙ verdict-stops [] (ring-fails rows cols given h)) in omega arith
            | no d ↦ let z : ◌≡◌ {A = ℕ} 0 1 = cc (q, verdict-next (ring_test rows cols given ∷ []) (code-passes rows cols levels given (omega arith)) ∙ verdict-next [] (ring-passes rows cols given (omega arith)) ∙ verdict-none) in omega arith
          ]

  -- 18: the first cell that lies on a ring
  pub ring-place : {p : ℕ} → judged rows cols Given elevation g ≡ failed 18 p → GoesRound rows cols g.direction p × ((x : ℕ) → x < p → GoesRound rows cols g.direction x → ⊥)
  unfolding first_ring
  ring-place {p} e = elim (dec_lt (first_broken rows cols levels given) (rows * cols)) [ yes h ↦ absurd (broken h) | no f ↦ kept (omega arith) ]
    where
      over : ground_judged rows cols elevation g ≡ passed
      over = late-ground refl e

      q : verdict (given_tests rows cols levels given) ≡ failed 18 p
      q = sym (judged-after rows cols Given elevation g over) ∙ e

      broken : first_broken rows cols levels given < rows * cols → ⊥
      broken h = let z : ◌≡◌ {A = ℕ} 17 18 = cc (q, verdict-stops (ring_test rows cols given ∷ []) (code-fails rows cols levels given h)) in omega arith

      kept : rows * cols ≤ first_broken rows cols levels given → GoesRound rows cols given p × ((x : ℕ) → x < p → GoesRound rows cols given x → ⊥)
      kept f =
          let passes = code-passes rows cols levels given f in
          let d = (keeping over (code-kept rows cols levels given passes)).drawn in
          let later = sym (verdict-next (ring_test rows cols given ∷ []) passes) ∙ q in
          elim (dec_lt (first_ring rows cols given) (rows * cols)) [
            | yes h ↦
                let s : first_ring rows cols given ≡ p = cc (later, verdict-stops [] (ring-fails rows cols given h)) in (
                  ring-round d p (ap (ring_at rows cols given) (sym s) ∙ first_holds (ring_at rows cols given) (rows * cols) h),
                  (λ x l r. true≢false (sym (round-ring d x r) ∙ first-before (ring_at rows cols given) (rows * cols) x (omega (arith, l, s)))),
                )
            | no g ↦ let z : ◌≡◌ {A = ℕ} 0 1 = cc (later, verdict-next [] (ring-passes rows cols given (omega arith)) ∙ verdict-none) in absurd (omega arith)
          ]
