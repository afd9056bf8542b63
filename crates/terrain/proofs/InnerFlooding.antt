-- Laws of heights in words, of the search for cells at fault, and of what is read off the filled levels. Assumes nothing.
use Rattle.std.proofs.Common.{◌≡◌, ℕ, ◌+◌, ◌*◌, ◌<◌, min, Bool, true, false, ◌&&◌, ◌||◌, ltb, List, map, length, get_or, ℤ, pos, ◌+ℤ◌, ◌-ℤ◌, sym, refl, ap, ◌∙◌, subst, true≢false, arith, to_z-of_z, w32, SFits, to_z, of_z, ltb-false, le-ltb, lt-ltb}
use native.Mathlib.Decide.{dec_lt}
use mir.Facts.{to_z_pos}
use Rattle.laws.proofs.Search.{failing-one}
use Rattle.text.specs.Quantities.{datum}
use Rattle.terrain.specs.Cells.{neighbour, Fine, level_of, height_of, levels_of}
use Rattle.terrain.specs.InnerCells.{Ready}
use Rattle.terrain.specs.Filled.{top, lowest_of, filled_levels, filled_of}
use Rattle.terrain.specs.InnerFlood.{FaultyCell, Faulty}
use Rattle.terrain.proofs.Filling.{lowest-none, lowest-more}
use Rattle.terrain.proofs.Neighbours.{sum_level, level-fine, fine-fits, difference-height, height-mag}

-- ---- heights and levels in words of 32 bits

sum-word : (z : ℤ) → Fine z → to_z w32 (of_z w32 z) +ℤ pos datum ≡ pos (level_of z)
sum-word z f = ap (λ (y : ℤ). y +ℤ pos datum) (to_z-of_z (fine-fits z f)) ∙ sum_level z f

pub sum_fits : (z : ℤ) → Fine z → SFits w32 (to_z w32 (of_z w32 z) +ℤ pos datum)
sum_fits z f = subst (SFits w32) (sym (sum-word z f)) (record { sfits = omega (arith, level-fine z f) })

pub level-word : (z : ℤ) → Fine z → to_z w32 (of_z w32 (to_z w32 (of_z w32 z) +ℤ pos datum)) ≡ pos (level_of z)
level-word z f = to_z-of_z (sum_fits z f) ∙ sum-word z f

difference-word : (v : ℕ) → v < top → to_z w32 v -ℤ pos datum ≡ height_of v
difference-word v h = ap (λ (z : ℤ). z -ℤ pos datum) (to_z_pos w32 {n = v} (omega arith)) ∙ difference-height v

pub difference-fits : (v : ℕ) → v < top → SFits w32 (to_z w32 v -ℤ pos datum)
difference-fits v h = subst (SFits w32) (sym (difference-word v h)) (record { sfits = height-mag v (omega arith) })

pub height-word : (v : ℕ) → v < top → to_z w32 (of_z w32 (to_z w32 v -ℤ pos datum)) ≡ height_of v
height-word v h = to_z-of_z (difference-fits v h) ∙ difference-word v h

-- what reading the ground's level at a cell asks
pub ground-read : {rows cols : ℕ} {elevation : List ℤ} → Ready rows cols elevation → (x : ℕ) → x < rows * cols → (x < length elevation) × Fine (get_or elevation x (pos 0))
ground-read r x h = (omega (arith, r.long), r.fine x (omega (arith, r.long)))

-- ---- the search for cells at fault

-- one cell, as the code tells
pub cell-faulty : (rows cols : ℕ) (elevation : List ℤ) (l : List ℕ) (b m v u low : ℕ) → v ≡ get_or l b 0 → u ≡ get_or (levels_of elevation) b 0 → low ≡ lowest_of rows cols l b 8 → FaultyCell v u low m → Faulty rows cols elevation l b (b + 1) m
cell-faulty rows cols elevation l b m v u low p q r o = failing-one _ b m o.few (λ e. record { above = omega (arith, o.above e); still = omega (arith, o.still e) })

-- ---- filled heights

module _ {rows cols : ℕ} {elevation : List ℤ} (ready : Ready rows cols elevation) where
  -- the heights of the filled levels are the filled heights
  pub filled-heights : map height_of (filled_levels rows cols elevation) ≡ filled_of rows cols elevation
  unfolding filled_of
  filled-heights = refl

-- ---- the levels beside a cell, compared one by one

pub lower-either : (a b v : ℕ) → (ltb a v || ltb b v) ≡ ltb (min a b) v
lower-either a b v =
    elim (dec_lt a v) [
      | yes h ↦ rw (lt-ltb a v h) (sym (lt-ltb (min a b) v (omega arith)))
      | no f ↦ rw (le-ltb a v (omega arith)) (elim (dec_lt b v) [ yes h ↦ lt-ltb b v h ∙ sym (lt-ltb (min a b) v (omega arith)) | no g ↦ le-ltb b v (omega arith) ∙ sym (le-ltb (min a b) v (omega arith)) ])
    ]

module _ (rows cols : ℕ) (lv : List ℕ) (x v : ℕ) where
  pub lower-none : ltb top v ≡ ltb (lowest_of rows cols lv x 0) v
  lower-none = ap (λ (n : ℕ). ltb n v) (sym (lowest-none rows cols lv x))

  pub lower-more : (k : ℕ) {b : Bool} {y : ℕ} → b ≡ ltb (lowest_of rows cols lv x k) v → y ≡ neighbour rows cols x k → (b || ltb (get_or lv y 0) v) ≡ ltb (lowest_of rows cols lv x (k + 1)) v
  lower-more k {b} {y} e q =
      ap (λ (c : Bool). c || ltb (get_or lv y 0) v) e ∙ ap (λ (z : ℕ). ltb (lowest_of rows cols lv x k) v || ltb (get_or lv z 0) v) q
      ∙ lower-either (lowest_of rows cols lv x k) (get_or lv (neighbour rows cols x k) 0) v ∙ ap (λ (n : ℕ). ltb n v) (sym (lowest-more rows cols lv x k))

-- a cell that is not below its ground, and not above it with a lower one beside it, is not at fault
neither : (a b : Bool) → (a || b) ≡ false → (a ≡ false) × (b ≡ false)
neither true b e = absurd (true≢false e)
neither false b e = (refl, e)

not-both : (a b : Bool) → (a && b) ≡ false → a ≡ true → b ≡ false
not-both true b e q = e
not-both false b e q = absurd (true≢false (sym q))

pub not-faulty : (v u low : ℕ) {lower : Bool} → lower ≡ ltb low v → (ltb v u || (ltb u v && lower)) ≡ false → FaultyCell v u low 0
not-faulty v u low {lower} e q =
    let n = neither (ltb v u) (ltb u v && lower) q in
    record {
      few = omega arith;
      above = (λ z. ltb-false v u n.0);
      still = (λ z. elim (dec_lt u v) [ yes h ↦ omega (arith, ltb-false low v (sym e ∙ not-both (ltb u v) lower n.1 (lt-ltb u v h))) | no f ↦ omega arith ]);
    }
