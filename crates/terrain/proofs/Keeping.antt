-- A given grid of directions: what the rules of 17 come to for each kind of code, what a grid has that keeps them, and that our own directions keep them. Assumes nothing.
use Rattle.std.proofs.Common.{◌≡◌, ℕ, ◌+◌, ◌-◌, ◌*◌, ◌%◌, ◌<◌, ◌≤◌, Bool, true, false, cond, not, ◌&&◌, ◌||◌, eqb, ltb, leb, List, [], ◌∷◌, length, get_or, sym, refl, ap, ◌∙◌, ⊎_elim, true≢false, arith, ltb-false, le-ltb, lt-ltb, eq-eqb, ne_eqb, eqb-true, leb-true}
use native.Mathlib.Decide.{dec_lt}
use lib.ListN.{get_or-eq_default}
use borrow.Author.Tests.{not-true, not-false}
use Rattle.laws.specs.Tests.{passed, failed, verdict}
use Rattle.laws.proofs.Tests.{two, and_both, and-true-right}
use Rattle.laws.proofs.First.{first-before, first-none}
use Rattle.laws.proofs.Verdicts.{test-yes, test-no, test-passed, verdict-none, verdict-next}
use Rattle.terrain.specs.Cells.{neighbour, code_of, bearing_of, valid_at, rim_at}
use Rattle.terrain.specs.Trail.{mapped_at, flows_at, next_at, receiver_of}
use Rattle.terrain.specs.Falls.{no_fall, fall_of, drop_at, fall_at}
use Rattle.terrain.specs.Given.{kept_at, first_broken, ring_at, first_ring, code_test, ring_test, given_tests}
use Rattle.terrain.specs.InnerTrail.{Drawn, Directed}
use Rattle.terrain.specs.InnerLevels.{Levels}
use Rattle.terrain.specs.InnerGiven.{Keeping}
use Rattle.terrain.proofs.Neighbours.{code-some}
use Rattle.terrain.proofs.Trails.{is_mapped, mapped-is, mapped_in, mapped-none, flows-mapped, code-flows, code-next, zero-stops, receiver-flows, receiver-points}
use Rattle.terrain.proofs.Receivers.{code_read}
use Rattle.terrain.proofs.Rings.{ringless-directed}

-- ---- the five rules over tests: valid, 255, points, 0, at a valid cell, not higher, rim

abbrev keeps : Bool → Bool → Bool → Bool → Bool → Bool → Bool → Bool
keeps v n f z on le rim = (v || n) && ((not v || (f || z)) && ((not f || on) && ((not f || le) && (not z || rim))))

keeps-none : (v n f z on le rim : Bool) → v ≡ false → (n ≡ true → f ≡ false) → (n ≡ true → z ≡ false) → keeps v n f z on le rim ≡ n
keeps-none v true f z on le rim e p q = rw (e, p refl, q refl)
keeps-none v false f z on le rim e p q = rw e

keeps-zero : (v n f z on le rim : Bool) → v ≡ true → f ≡ false → z ≡ true → keeps v n f z on le rim ≡ rim
keeps-zero v n f z on le rim e p q = rw (e, p, q)

keeps-points : (v n f z on le rim : Bool) → v ≡ true → f ≡ true → z ≡ false → keeps v n f z on le rim ≡ (on && le)
keeps-points v n f z true le rim e p q = rw (e, p, q) (sym (and-true-right le true refl))
keeps-points v n f z false le rim e p q = rw (e, p)

keeps-odd : (v n f z on le rim : Bool) → v ≡ true → f ≡ false → z ≡ false → keeps v n f z on le rim ≡ false
keeps-odd v n f z on le rim e p q = rw (e, p, q)

if-then : (a b : Bool) → (not a || b) ≡ true → a ≡ true → b ≡ true
if-then true b e q = e
if-then false b e q = absurd (true≢false (sym q))

or_else : (a b : Bool) → (a || b) ≡ true → a ≡ false → b ≡ true
or_else true b e q = absurd (true≢false q)
or_else false b e q = e

module _ (rows cols : ℕ) (lv dir : List ℕ) (x : ℕ) where
  abbrev code : ℕ
  code = get_or dir x 255

  abbrev flows : Bool
  flows = flows_at rows cols dir x

  abbrev next : ℕ
  next = next_at rows cols dir x

  -- ---- what the rules come to, by the code

  -- a NoData cell has 255
  pub kept-none : get_or lv x 0 ≡ 0 → kept_at rows cols lv dir x ≡ eqb (get_or dir x 255) 255
  unfolding kept_at
  kept-none e =
      keeps-none (valid_at lv x) (eqb code 255) flows (eqb code 0) (valid_at lv next) (leb (get_or lv next 0) (get_or lv x 0)) (rim_at rows cols lv x)
      (le-ltb 0 (get_or lv x 0) (omega arith))
      (λ t. ⊎_elim (λ q. absurd (mapped-is rows cols dir x (flows-mapped rows cols dir x q) (eqb-true code 255 t))) (λ q. q) (two flows))
      (λ t. ne_eqb code 0 (λ z. omega (arith, eqb-true code 255 t)))

  -- 0 stands on a rim cell
  pub kept_leaves : 0 < get_or lv x 0 → get_or dir x 255 ≡ 0 → kept_at rows cols lv dir x ≡ rim_at rows cols lv x
  unfolding kept_at
  kept_leaves v e =
      keeps-zero (valid_at lv x) (eqb code 255) flows (eqb code 0) (valid_at lv next) (leb (get_or lv next 0) (get_or lv x 0)) (rim_at rows cols lv x)
      (lt-ltb 0 (get_or lv x 0) v) (zero-stops rows cols dir x e) (eq-eqb code 0 e)

  -- any other of the nine points at a valid cell that is not higher
  pub kept-points : (k : ℕ) → 0 < get_or lv x 0 → k < 8 → get_or dir x 255 ≡ code_of k → kept_at rows cols lv dir x ≡ (ltb 0 (get_or lv (neighbour rows cols x k) 0) && leb (get_or lv (neighbour rows cols x k) 0) (get_or lv x 0))
  unfolding kept_at
  kept-points k v h e =
      keeps-points (valid_at lv x) (eqb code 255) flows (eqb code 0) (valid_at lv next) (leb (get_or lv next 0) (get_or lv x 0)) (rim_at rows cols lv x)
      (lt-ltb 0 (get_or lv x 0) v) (code-flows rows cols dir x k h e) (ne_eqb code 0 (λ z. omega (arith, code-some k h)))
      ∙ ap (λ (y : ℕ). ltb 0 (get_or lv y 0) && leb (get_or lv y 0) (get_or lv x 0)) (code-next rows cols dir x k h e)

  -- no other code is right on a valid cell
  pub kept-odd : 0 < get_or lv x 0 → (get_or dir x 255 ≡ 0 → ⊥) → 8 ≤ bearing_of (get_or dir x 255) → kept_at rows cols lv dir x ≡ false
  unfolding kept_at flows_at
  kept-odd v d h =
      keeps-odd (valid_at lv x) (eqb code 255) flows (eqb code 0) (valid_at lv next) (leb (get_or lv next 0) (get_or lv x 0)) (rim_at rows cols lv x)
      (lt-ltb 0 (get_or lv x 0) v) (le-ltb (bearing_of code) 8 h) (ne_eqb code 0 d)

  -- ---- what a cell has that keeps them

  module _ (k : kept_at rows cols lv dir x ≡ true) where
    all-five : (valid_at lv x || eqb code 255) && ((not (valid_at lv x) || (flows || eqb code 0)) && ((not flows || valid_at lv next) && ((not flows || leb (get_or lv next 0) (get_or lv x 0)) && (not (eqb code 0) || rim_at rows cols lv x)))) ≡ true
    unfolding kept_at
    all-five = k

    abbrev rest : Bool
    rest = (not flows || valid_at lv next) && ((not flows || leb (get_or lv next 0) (get_or lv x 0)) && (not (eqb code 0) || rim_at rows cols lv x))

    first_two : ((valid_at lv x || eqb code 255) ≡ true) × ((not (valid_at lv x) || (flows || eqb code 0)) ≡ true) × (rest ≡ true)
    first_two =
        let a = and_both (valid_at lv x || eqb code 255) ((not (valid_at lv x) || (flows || eqb code 0)) && rest) all-five in
        let b = and_both (not (valid_at lv x) || (flows || eqb code 0)) rest a.1 in
        (a.0, b.0, b.1)

    last-three : ((not flows || valid_at lv next) ≡ true) × ((not flows || leb (get_or lv next 0) (get_or lv x 0)) ≡ true) × ((not (eqb code 0) || rim_at rows cols lv x) ≡ true)
    last-three =
        let a = and_both (not flows || valid_at lv next) ((not flows || leb (get_or lv next 0) (get_or lv x 0)) && (not (eqb code 0) || rim_at rows cols lv x)) first_two.2 in
        let b = and_both (not flows || leb (get_or lv next 0) (get_or lv x 0)) (not (eqb code 0) || rim_at rows cols lv x) a.1 in
        (a.0, b.0, b.1)

    pub has-none : valid_at lv x ≡ false → get_or dir x 255 ≡ 255
    has-none v = eqb-true code 255 (or_else (valid_at lv x) (eqb code 255) first_two.0 v)

    pub has-nine : valid_at lv x ≡ true → flows_at rows cols dir x ≡ false → get_or dir x 255 ≡ 0
    has-nine v q = eqb-true code 0 (or_else flows (eqb code 0) (if-then (valid_at lv x) (flows || eqb code 0) first_two.1 v) q)

    pub has-aim : flows_at rows cols dir x ≡ true → valid_at lv (next_at rows cols dir x) ≡ true
    has-aim = if-then flows (valid_at lv next) last-three.0

    pub has-fall : flows_at rows cols dir x ≡ true → get_or lv (next_at rows cols dir x) 0 ≤ get_or lv x 0
    has-fall q = leb-true (get_or lv next 0) (get_or lv x 0) (if-then flows (leb (get_or lv next 0) (get_or lv x 0)) last-three.1 q)

    pub has-rim : get_or dir x 255 ≡ 0 → rim_at rows cols lv x ≡ true
    has-rim e = if-then (eqb code 0) (rim_at rows cols lv x) last-three.2 (eq-eqb code 0 e)

-- ---- a grid that keeps them

module _ (rows cols : ℕ) (lv dir : List ℕ) (l : Levels rows cols lv) (long : length dir ≡ rows * cols) (kept : (x : ℕ) → x < rows * cols → kept_at rows cols lv dir x ≡ true) where
  code_in : (x : ℕ) → (get_or dir x 255 ≡ 255 → ⊥) → x < rows * cols
  code_in x f = elim (dec_lt x (rows * cols)) [ yes h ↦ h | no g ↦ absurd (f (get_or-eq_default dir 255 {n = x} (omega arith))) ]

  flows-in : (x : ℕ) → flows_at rows cols dir x ≡ true → x < rows * cols
  flows-in x q = code_in x (mapped-is rows cols dir x (flows-mapped rows cols dir x q))

  valid-code : (x : ℕ) → x < rows * cols → valid_at lv x ≡ true → get_or dir x 255 ≡ 255 → ⊥
  valid-code x h v e =
      ⊎_elim (λ q. mapped-is rows cols dir x (flows-mapped rows cols dir x q) e) (λ q. omega (arith, e, has-nine rows cols lv dir x (kept x h) v q)) (two (flows_at rows cols dir x))

  kept-mapped : (x : ℕ) → mapped_at rows cols dir x ≡ valid_at lv x
  kept-mapped x =
      elim (dec_lt x (rows * cols)) [
        | yes h ↦ ⊎_elim (λ v. is_mapped rows cols dir x (valid-code x h v) ∙ sym v) (λ v. mapped-none rows cols dir x (has-none rows cols lv dir x (kept x h) v) ∙ sym v) (two (valid_at lv x))
        | no g ↦ mapped-none rows cols dir x (get_or-eq_default dir 255 {n = x} (omega arith)) ∙ sym (le-ltb 0 (get_or lv x 0) (omega (arith, get_or-eq_default lv 0 {n = x} (omega (arith, l.long)))))
      ]

  pub kept-keeping : Keeping rows cols lv dir
  kept-keeping =
      record {
        levels = l;
        drawn =
            record {
              sized = l.sized;
              long = long;
              stops = (λ x v q. has-nine rows cols lv dir x (kept x (mapped_in rows cols dir long x v)) (sym (kept-mapped x) ∙ v) q);
              stays = (λ x q. kept-mapped (next_at rows cols dir x) ∙ has-aim rows cols lv dir x (kept x (flows-in x q)) q);
            };
        mapped = kept-mapped;
        falls = (λ x q. has-fall rows cols lv dir x (kept x (flows-in x q)) q);
        leaves = (λ x e. has-rim rows cols lv dir x (kept x (code_in x (λ q. omega arith))) e);
      }

-- ---- the tests

-- a grid that passes 17 keeps the rules
pub code-kept : (rows cols : ℕ) (lv dir : List ℕ) → code_test rows cols lv dir ≡ passed → (x : ℕ) → x < rows * cols → kept_at rows cols lv dir x ≡ true
unfolding code_test first_broken
code-kept rows cols lv dir e x h =
    let q = test-passed (not (ltb (first_broken rows cols lv dir) (rows * cols))) 17 (first_broken rows cols lv dir) e in
    not-false (kept_at rows cols lv dir x)
    (first-before (λ y. not (kept_at rows cols lv dir y)) (rows * cols) x (omega (arith, h, ltb-false (first_broken rows cols lv dir) (rows * cols) (not-true (ltb (first_broken rows cols lv dir) (rows * cols)) q))))

pub code-passed : {rows cols : ℕ} {lv dir : List ℕ} → Levels rows cols lv → length dir ≡ rows * cols → code_test rows cols lv dir ≡ passed → Keeping rows cols lv dir
code-passed {rows} {cols} {lv} {dir} l long e = kept-keeping rows cols lv dir l long (code-kept rows cols lv dir e)

-- what each decides
module _ (rows cols : ℕ) (lv dir : List ℕ) where
  pub code-passes : rows * cols ≤ first_broken rows cols lv dir → code_test rows cols lv dir ≡ passed
  unfolding code_test
  code-passes h = test-yes 17 (first_broken rows cols lv dir) (ap not (le-ltb (first_broken rows cols lv dir) (rows * cols) h))

  pub code-fails : first_broken rows cols lv dir < rows * cols → code_test rows cols lv dir ≡ failed 17 (first_broken rows cols lv dir)
  unfolding code_test
  code-fails h = test-no 17 (first_broken rows cols lv dir) (ap not (lt-ltb (first_broken rows cols lv dir) (rows * cols) h))

module _ (rows cols : ℕ) (dir : List ℕ) where
  pub ring-passes : rows * cols ≤ first_ring rows cols dir → ring_test rows cols dir ≡ passed
  unfolding ring_test
  ring-passes h = test-yes 18 (first_ring rows cols dir) (ap not (le-ltb (first_ring rows cols dir) (rows * cols) h))

  pub ring-fails : first_ring rows cols dir < rows * cols → ring_test rows cols dir ≡ failed 18 (first_ring rows cols dir)
  unfolding ring_test
  ring-fails h = test-no 18 (first_ring rows cols dir) (ap not (lt-ltb (first_ring rows cols dir) (rows * cols) h))

-- a grid that keeps the rules and has no ring passes both
pub given-passes : (rows cols : ℕ) (lv dir : List ℕ) → ((x : ℕ) → x < rows * cols → kept_at rows cols lv dir x ≡ true) → ((x : ℕ) → x < rows * cols → ring_at rows cols dir x ≡ false) → verdict (given_tests rows cols lv dir) ≡ passed
unfolding first_broken first_ring
given-passes rows cols lv dir kept none =
    verdict-next (ring_test rows cols dir ∷ []) (code-passes rows cols lv dir (omega (arith, first-none (λ x. not (kept_at rows cols lv dir x)) (rows * cols) (λ x h. ap not (kept x h)))))
    ∙ verdict-next [] (ring-passes rows cols dir (omega (arith, first-none (ring_at rows cols dir) (rows * cols) none)))
    ∙ verdict-none

-- a grid that passes 18 as well has no ring, and its trails end
pub ring-none : (rows cols : ℕ) (dir : List ℕ) → ring_test rows cols dir ≡ passed → (x : ℕ) → x < rows * cols → ring_at rows cols dir x ≡ false
unfolding ring_test first_ring
ring-none rows cols dir e x h =
    let q = test-passed (not (ltb (first_ring rows cols dir) (rows * cols))) 18 (first_ring rows cols dir) e in
    first-before (ring_at rows cols dir) (rows * cols) x (omega (arith, h, ltb-false (first_ring rows cols dir) (rows * cols) (not-true (ltb (first_ring rows cols dir) (rows * cols)) q)))

pub ring-passed : {rows cols : ℕ} {dir : List ℕ} → Drawn rows cols dir → ring_test rows cols dir ≡ passed → Directed rows cols dir
ring-passed {rows} {cols} {dir} d e = ringless-directed d (ring-none rows cols dir e)

-- ---- falls

module _ {rows cols : ℕ} {lv dir : List ℕ} (k : Keeping rows cols lv dir) (x : ℕ) (h : x < rows * cols) where
  pub along-none : get_or dir x 0 ≡ 255 → no_fall ≡ fall_at rows cols lv dir x
  unfolding fall_at
  along-none e = rw (mapped-none rows cols dir x (code_read k.drawn x h ∙ e))

  module _ (m : mapped_at rows cols dir x ≡ true) {y : ℕ} (e : y ≡ receiver_of rows cols dir x) where
    fall-mapped : fall_at rows cols lv dir x ≡ fall_of (bearing_of (get_or dir x 255)) (drop_at rows cols lv dir x)
    unfolding fall_at
    fall-mapped = rw m

    drop-off : flows_at rows cols dir x ≡ false → drop_at rows cols lv dir x ≡ 0
    unfolding drop_at
    drop-off q = rw q

    pub along-off : rows * cols ≤ y → 0 ≡ fall_at rows cols lv dir x
    unfolding fall_of
    along-off o =
        ⊎_elim (λ q. absurd (omega (arith, e, receiver-flows rows cols dir x q, mapped_in rows cols dir k.drawn.long (next_at rows cols dir x) (k.drawn.stays x q))))
        (λ q. sym (fall-mapped ∙ ap (fall_of (bearing_of (get_or dir x 255))) (drop-off q))) (two (flows_at rows cols dir x))

    module _ (l : y < rows * cols) where
      goes : flows_at rows cols dir x ≡ true
      goes = receiver-points rows cols dir x (omega arith)

      next-is : next_at rows cols dir x ≡ y
      next-is = sym (e ∙ receiver-flows rows cols dir x goes)

      pub along-lower : get_or lv y 0 ≤ get_or lv x 0
      along-lower = omega (arith, k.falls x goes, ap (λ (i : ℕ). get_or lv i 0) next-is)

      fall-is : fall_at rows cols lv dir x ≡ fall_of (bearing_of (get_or dir x 255)) (get_or lv x 0 - get_or lv y 0)
      unfolding drop_at
      fall-is = fall-mapped ∙ rw (goes, next-is)

      pub along-flat : get_or lv x 0 - get_or lv y 0 < 1 → 0 ≡ fall_at rows cols lv dir x
      unfolding fall_of
      along-flat f = sym (fall-is ∙ ap (λ (b : Bool). cond b (2 * (get_or lv x 0 - get_or lv y 0) + bearing_of (get_or dir x 255) % 2) 0) (le-ltb 0 (get_or lv x 0 - get_or lv y 0) (omega arith)))

      pub along-down : {t : ℕ} → t ≡ bearing_of (get_or dir x 255) → 1 ≤ get_or lv x 0 - get_or lv y 0 → 2 * (get_or lv x 0 - get_or lv y 0) + t % 2 ≡ fall_at rows cols lv dir x
      unfolding fall_of
      along-down {t} b f =
          sym (fall-is ∙ ap (λ (c : Bool). cond c (2 * (get_or lv x 0 - get_or lv y 0) + bearing_of (get_or dir x 255) % 2) 0) (lt-ltb 0 (get_or lv x 0 - get_or lv y 0) f) ∙ ap (λ (j : ℕ). 2 * (get_or lv x 0 - get_or lv y 0) + j % 2) (sym b))
