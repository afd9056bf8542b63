-- Directions: each valid cell points at a lower neighbour, or at one of its level that is a step nearer, or leaves the map at the rim. Assumes nothing.
use Rattle.std.proofs.Common.{◌≡◌, ℕ, ◌+◌, ◌-◌, ◌*◌, ◌<◌, ◌≤◌, Bool, true, false, cond, eqb, List, length, get_or, sym, refl, ◌∙◌, subst, true≢false, mul-le-mul, arith, le-ltb, lt-ltb, eq-eqb, eqb-true}
use native.Mathlib.Decide.{dec_lt}
use Rattle.laws.specs.First.{first_of}
use Rattle.laws.proofs.Tests.{and_both}
use Rattle.laws.proofs.Lists.{get_or-tab, get_or-tab-past, length-tab}
use Rattle.laws.proofs.Sums.{greatest-ge, greatest-is}
use Rattle.laws.proofs.First.{first_holds, first-le, some_is, some-yes}
use Rattle.terrain.specs.Cells.{neighbour, code_of, cardinal, rim_at}
use Rattle.terrain.specs.Flat.{far_steps, lower_at, has_lower, flat_at, flat_steps, Walk, there, on, walked}
use Rattle.terrain.specs.InnerFlats.{StepsKept, StepsStill}
use Rattle.terrain.specs.Direction.{steep_of, steep_at, steepest_at, steep_bearing, nearer_at, nearer_bearing, direction_at, directions_of}
use Rattle.terrain.proofs.Neighbours.{rim-open}
use Rattle.terrain.proofs.Flats.{lower-is, flat-is, nearest-le, seen_same, walk-least}

square-some : (d : ℕ) → 0 < d → 0 < d * d
square-some d h = omega (arith, mul-le-mul h h)

steep-some : (k d : ℕ) → 0 < d → 0 < steep_of k d
steep-some k d h = go (cardinal k)
  where
    go : (b : Bool) → 0 < cond b (2 * (d * d)) (d * d)
    go true = omega (arith, square-some d h)
    go false = square-some d h

module _ (rows cols : ℕ) (lv : List ℕ) where
  abbrev nb : ℕ → ℕ → ℕ
  nb = neighbour rows cols

  -- ---- steepness

  -- it is above 0 towards the lower neighbours alone
  pub lower-steep : (x k : ℕ) → lower_at rows cols lv x k ≡ true → 0 < steep_at rows cols lv x k
  unfolding steep_at
  lower-steep x k e = rw e (steep-some k (get_or lv x 0 - get_or lv (nb x k) 0) (omega (arith, (lower-is rows cols lv x k e).1)))

  pub steep-lower : (x k : ℕ) → 0 < steep_at rows cols lv x k → lower_at rows cols lv x k ≡ true
  unfolding steep_at
  steep-lower x k h = go (lower_at rows cols lv x k) h
    where
      go : (b : Bool) → 0 < cond b (steep_of k (get_or lv x 0 - get_or lv (nb x k) 0)) 0 → b ≡ true
      go true h = refl
      go false h = absurd (omega arith)

  pub steepest-some : (x : ℕ) → has_lower rows cols lv x ≡ true → 0 < steepest_at rows cols lv x
  unfolding has_lower steepest_at
  steepest-some x e = let i = some_is (lower_at rows cols lv x) 8 e in omega (arith, lower-steep x i.0 i.2, greatest-ge 8 (steep_at rows cols lv x) i.0 i.1)

  pub some-steepest : (x : ℕ) → 0 < steepest_at rows cols lv x → has_lower rows cols lv x ≡ true
  unfolding has_lower steepest_at
  some-steepest x h = let i = greatest-is 8 (steep_at rows cols lv x) h in some-yes (lower_at rows cols lv x) 8 i.0 i.1 (steep-lower x i.0 (omega (arith, i.2)))

  -- the bearing of the direction is a lower neighbour's
  pub steep-bearing : (x : ℕ) → has_lower rows cols lv x ≡ true → (steep_bearing rows cols lv x < 8) × (lower_at rows cols lv x (steep_bearing rows cols lv x) ≡ true)
  unfolding steep_bearing steepest_at
  steep-bearing x e =
      let h = steepest-some x e in
      let i = greatest-is 8 (steep_at rows cols lv x) h in
      let p : ℕ → Bool = λ k. eqb (steep_at rows cols lv x k) (steepest_at rows cols lv x) in
      let l : first_of p 8 < 8 = omega (arith, i.1, first-le p 8 i.0 i.1 (eq-eqb (steep_at rows cols lv x i.0) (steepest_at rows cols lv x) i.2)) in
      (l, steep-lower x (first_of p 8) (omega (arith, eqb-true (steep_at rows cols lv x (first_of p 8)) (steepest_at rows cols lv x) (first_holds p 8 l))))

  -- ---- flat cells

  pub nearer-is : (st : List ℕ) (x k : ℕ) → nearer_at rows cols lv st x k ≡ true → (get_or lv (neighbour rows cols x k) 0 ≡ get_or lv x 0) × (get_or st (neighbour rows cols x k) 0 + 1 ≡ get_or st x 0)
  nearer-is st x k e =
      let w = and_both (eqb (get_or lv (nb x k) 0) (get_or lv x 0)) (eqb (get_or st (nb x k) 0 + 1) (get_or st x 0)) e in
      (eqb-true (get_or lv (nb x k) 0) (get_or lv x 0) w.0, eqb-true (get_or st (nb x k) 0 + 1) (get_or st x 0) w.1)

  -- a flat cell has a neighbour one step nearer
  flat-nearer : (st : List ℕ) → StepsKept rows cols lv st → StepsStill rows cols lv st → (x : ℕ) → flat_at rows cols lv x ≡ true → get_or st x 0 < far_steps → (k : ℕ) × (k < 8) × (nearer_at rows cols lv st x k ≡ true)
  flat-nearer st kept still x f n = let r = kept.stands x f n in go r.0 f r.1
    where
      go : {x : ℕ} (r : Walk rows cols lv x) → flat_at rows cols lv x ≡ true → walked rows cols lv r ≤ get_or st x 0 → (k : ℕ) × (k < 8) × (nearer_at rows cols lv st x k ≡ true)
      go (there x v q) f le = absurd (true≢false (sym f ∙ q))
      go (on x k v h e r) f le =
          let t : get_or st (nb x k) 0 + 1 ≡ get_or st x 0 = omega (arith, walk-least rows cols lv st kept still r, still x f, nearest-le rows cols lv st x k 8 h, seen_same rows cols lv st x k e) in
          (k, h, simp (eq-eqb (get_or lv (nb x k) 0) (get_or lv x 0) e, eq-eqb (get_or st (nb x k) 0 + 1) (get_or st x 0) t))

  pub nearer-bearing : (st : List ℕ) → StepsKept rows cols lv st → StepsStill rows cols lv st → (x : ℕ) → flat_at rows cols lv x ≡ true → get_or st x 0 < far_steps → (nearer_bearing rows cols lv st x < 8) × (nearer_at rows cols lv st x (nearer_bearing rows cols lv st x) ≡ true)
  unfolding nearer_bearing
  nearer-bearing st kept still x f n =
      let i = flat-nearer st kept still x f n in
      let l : first_of (nearer_at rows cols lv st x) 8 < 8 = omega (arith, i.1, first-le (nearer_at rows cols lv st x) 8 i.0 i.1 i.2) in
      (l, first_holds (nearer_at rows cols lv st x) 8 l)

  -- ---- the three kinds of a valid cell

  pub data Points (st : List ℕ) (x code : ℕ) : Type 0 where
    down : (k : ℕ) → k < 8 → code ≡ code_of k → 0 < get_or lv (neighbour rows cols x k) 0 → get_or lv (neighbour rows cols x k) 0 < get_or lv x 0 → Points st x code
    along : (k : ℕ) → k < 8 → code ≡ code_of k → get_or lv (neighbour rows cols x k) 0 ≡ get_or lv x 0 → get_or st (neighbour rows cols x k) 0 + 1 ≡ get_or st x 0 → Points st x code
    leaves : (k : ℕ) → k < 8 → code ≡ 0 → get_or lv (neighbour rows cols x k) 0 ≡ 0 → Points st x code

  pub points : (st : List ℕ) → StepsKept rows cols lv st → StepsStill rows cols lv st → (x : ℕ) → 0 < get_or lv x 0 → get_or st x 0 < far_steps → Points st x (direction_at rows cols lv st x)
  unfolding direction_at
  points st kept still x v n = subst (Points st x) (sym (simp (lt-ltb 0 (get_or lv x 0) v))) (go (has_lower rows cols lv x) refl (rim_at rows cols lv x) refl)
    where
      go : (b : Bool) → has_lower rows cols lv x ≡ b → (c : Bool) → rim_at rows cols lv x ≡ c → Points st x (cond b (code_of (steep_bearing rows cols lv x)) (cond c 0 (code_of (nearer_bearing rows cols lv st x))))
      go true e c q = let s = steep-bearing x e in let l = lower-is rows cols lv x (steep_bearing rows cols lv x) s.1 in down (steep_bearing rows cols lv x) s.0 refl l.0 l.1
      go false e true q = let i = rim-open rows cols lv x q in leaves i.0 i.1 refl i.2
      go false e false q =
          let s = nearer-bearing st kept still x (flat-is rows cols lv x v e q) n in
          let w = nearer-is st x (nearer_bearing rows cols lv st x) s.1 in
          along (nearer_bearing rows cols lv st x) s.0 refl w.0 w.1

  -- ---- the grid of directions

  pub directions-long : length (directions_of rows cols lv) ≡ rows * cols
  unfolding directions_of
  directions-long = length-tab (rows * cols) _

  pub direction-at : (x : ℕ) → x < rows * cols → get_or (directions_of rows cols lv) x 255 ≡ direction_at rows cols lv (flat_steps rows cols lv) x
  unfolding directions_of
  direction-at x h = get_or-tab (rows * cols) (λ y. direction_at rows cols lv (flat_steps rows cols lv) y) 255 x h

  pub direction-past : (x : ℕ) → rows * cols ≤ x → get_or (directions_of rows cols lv) x 255 ≡ 255
  unfolding directions_of
  direction-past x h = get_or-tab-past (rows * cols) (λ y. direction_at rows cols lv (flat_steps rows cols lv) y) 255 x h

  pub direction-none : (x : ℕ) → get_or lv x 0 ≡ 0 → get_or (directions_of rows cols lv) x 255 ≡ 255
  unfolding direction_at
  direction-none x e = elim (dec_lt x (rows * cols)) [ yes h ↦ direction-at x h ∙ simp (le-ltb 0 (get_or lv x 0) (omega arith)) | no f ↦ direction-past x (omega arith) ]
