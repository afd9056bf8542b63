-- Laws of the loops that work out the directions: the codes and the falls of the cells passed, then those of flats. Assumes nothing.
use Rattle.std.proofs.Common.{◌≡◌, ℕ, ◌+◌, ◌-◌, ◌*◌, ◌<◌, ◌≤◌, Bool, true, false, cond, ◌&&◌, eqb, List, length, get_or, set, sym, refl, ap, ◌∙◌, subst, true≢false, arith, length-set, get_or-set_other, below_more, ltb-true, lt-ltb, eq-eqb, ne_eqb}
use native.Mathlib.Decide.{dec_lt, ℕ_discrete}
use Rattle.laws.specs.Lists.{tab, Agrees}
use Rattle.laws.specs.Settle.{start_of}
use Rattle.laws.proofs.Lists.{agrees-none, agrees-more, agrees-tab, get_or-tab, length-tab}
use Rattle.laws.proofs.First.{first-is, first-none}
use Rattle.laws.proofs.Settle.{kept-active}
use Rattle.terrain.specs.Cells.{neighbour, code_of, valid_at, rim_at}
use Rattle.terrain.specs.Flat.{far_steps, has_lower, flat_at, flat_steps, flat_stepping, Walk, there, on, walked}
use Rattle.terrain.specs.InnerFlats.{Within, StepsKept}
use Rattle.terrain.specs.Direction.{steep_bearing, nearer_at, nearer_bearing, direction_at, directions_of}
use Rattle.terrain.specs.InnerLevels.{Levels, start_at, steepest_in, down_at, fall_down_at, FallTo, Down}
use Rattle.terrain.specs.declared.direction.Fall.{Fall}
use Rattle.terrain.proofs.Flats.{flat-valid, flat-inland, flat-is, steps-kept}

-- ---- the cells passed before the flats are

module _ {rows cols : ℕ} {lv : List ℕ} where
  pub down-none : (dir falls steps : List ℕ) → Down rows cols lv dir falls steps 0
  down-none dir falls steps =
      record { codes = agrees-none (down_at rows cols lv) 255 dir; falls = agrees-none (fall_down_at rows cols lv) 0 falls; starts = agrees-none (start_at rows cols lv) 0 steps }

  pub down-more : {dir falls steps : List ℕ} {x n : ℕ} {a : Fall} → x < length dir → x < length falls → x < length steps → Down rows cols lv dir falls steps x → FallTo rows cols lv x a → n ≡ start_at rows cols lv x → Down rows cols lv (set dir x a.code) (set falls x a.fall) (set steps x n) (x + 1)
  down-more {dir} {falls} {steps} {x} {n} {a} h k l p f e =
      record {
        codes = agrees-more (down_at rows cols lv) 255 dir x a.code h p.codes f.code;
        falls = agrees-more (fall_down_at rows cols lv) 0 falls x a.fall k p.falls f.fall;
        starts = agrees-more (start_at rows cols lv) 0 steps x n l p.starts e;
      }

  pub down-codes : {dir falls steps : List ℕ} → length dir ≡ rows * cols → Down rows cols lv dir falls steps (rows * cols) → dir ≡ tab (rows * cols) (down_at rows cols lv)
  down-codes {dir} h p = agrees-tab (down_at rows cols lv) 255 dir (rows * cols) h p.codes

  pub down-falls : {dir falls steps : List ℕ} → length falls ≡ rows * cols → Down rows cols lv dir falls steps (rows * cols) → falls ≡ tab (rows * cols) (fall_down_at rows cols lv)
  down-falls {dir} {falls} h p = agrees-tab (fall_down_at rows cols lv) 0 falls (rows * cols) h p.falls

  pub down-starts : {dir falls steps : List ℕ} → length steps ≡ rows * cols → Down rows cols lv dir falls steps (rows * cols) → steps ≡ start_of (flat_stepping rows cols lv)
  unfolding start_at
  down-starts {dir} {falls} {steps} h p = agrees-tab (λ x. cond (flat_at rows cols lv x) far_steps 0) 0 steps (rows * cols) h p.starts

module _ (rows cols : ℕ) (lv : List ℕ) (x : ℕ) where
  -- ---- the codes of the bearings passed

  -- as the code tells: the neighbour's steps are one less than the cell's
  one_less : (a b : ℕ) → 0 < b → eqb a (b - 1) ≡ eqb (a + 1) b
  one_less a b h = elim (ℕ_discrete a (b - 1)) [ yes e ↦ eq-eqb a (b - 1) e ∙ sym (eq-eqb (a + 1) b (omega arith)) | no f ↦ ne_eqb a (b - 1) f ∙ sym (ne_eqb (a + 1) b (λ e. f (omega arith))) ]

  turned : (a b : Bool) → (a && b) ≡ (b && a)
  turned true true = refl
  turned true false = refl
  turned false true = refl
  turned false false = refl

  pub nearer-told : (st : List ℕ) (k : ℕ) {y : ℕ} {r : Bool} → y ≡ neighbour rows cols x k → 0 < get_or st x 0 → r ≡ (eqb (get_or st y 0) (get_or st x 0 - 1) && eqb (get_or lv y 0) (get_or lv x 0)) → r ≡ nearer_at rows cols lv st x k
  nearer-told st k {y} e h q =
      q ∙ turned (eqb (get_or st y 0) (get_or st x 0 - 1)) (eqb (get_or lv y 0) (get_or lv x 0))
      ∙ ap (λ (b : Bool). eqb (get_or lv y 0) (get_or lv x 0) && b) (one_less (get_or st y 0) (get_or st x 0) h)
      ∙ ap (λ (z : ℕ). eqb (get_or lv z 0) (get_or lv x 0) && eqb (get_or st z 0 + 1) (get_or st x 0)) e

  -- no bearing below k is nearer
  abbrev pub NoneNearer : List ℕ → ℕ → Type 0
  NoneNearer st k = (j : ℕ) → j < k → nearer_at rows cols lv st x j ≡ false

  -- the code that the loop yields: none is nearer, or the bearing k is the first
  pub nearer-none : (st : List ℕ) (k : ℕ) → NoneNearer st k → 8 ≤ k → 0 ≡ code_of (nearer_bearing rows cols lv st x)
  unfolding nearer_bearing
  nearer-none st k n h = ap code_of (sym (first-none (nearer_at rows cols lv st x) 8 (λ j l. n j (omega arith))))

  pub nearer-found : (st : List ℕ) (k : ℕ) → NoneNearer st k → k < 8 → nearer_at rows cols lv st x k ≡ true → code_of k ≡ code_of (nearer_bearing rows cols lv st x)
  unfolding nearer_bearing
  nearer-found st k n h e = ap code_of (sym (first-is (nearer_at rows cols lv st x) 8 k n h e))

-- ---- the codes of the cells passed

-- the cells below x have their directions, and the others their codes but for flats
pub record Pointing (rows cols : ℕ) (lv st dir : List ℕ) (x : ℕ) : Type 0 where
  pub long : length dir ≡ rows * cols
  pub done : Agrees (direction_at rows cols lv st) 255 dir x
  pub rest : (y : ℕ) → x ≤ y → y < rows * cols → get_or dir y 255 ≡ down_at rows cols lv y

-- a valid cell with no lower neighbour that is no rim cell has the code of the flats, any other cell has not
code-flat : (valid lower rim : Bool) (down along : ℕ) → valid ≡ true → lower ≡ false → rim ≡ false → cond valid (cond lower down (cond rim 0 along)) 255 ≡ along
code-flat valid lower rim down along v l r = rw (v, l, r)

code-down : (valid lower rim : Bool) (down along : ℕ) → (valid ≡ true → lower ≡ false → rim ≡ false → ⊥) → cond valid (cond lower down (cond rim 0 along)) 255 ≡ cond valid (cond lower down 0) 255
code-down true true rim down along n = refl
code-down true false true down along n = refl
code-down true false false down along n = absurd (n refl refl refl)
code-down false lower rim down along n = refl

pub down-long : (rows cols : ℕ) (lv : List ℕ) {dir : List ℕ} → dir ≡ tab (rows * cols) (down_at rows cols lv) → length dir ≡ rows * cols
down-long rows cols lv e = ap length e ∙ length-tab (rows * cols) (down_at rows cols lv)

-- the flat steps as a caller hands them
pub given-kept : {rows cols : ℕ} {lv st : List ℕ} → Levels rows cols lv → st ≡ flat_steps rows cols lv → StepsKept rows cols lv st
given-kept {rows} {cols} {lv} l e = subst (StepsKept rows cols lv) (sym e) (steps-kept rows cols lv l.long)

module _ {rows cols : ℕ} {lv st : List ℕ} where
  pub point-none : {dir : List ℕ} → dir ≡ tab (rows * cols) (down_at rows cols lv) → Pointing rows cols lv st dir 0
  point-none e =
      record {
        long = down-long rows cols lv e;
        done = (λ j h. absurd (omega arith));
        rest = (λ y l h. ap (λ (d : List ℕ). get_or d y 255) e ∙ get_or-tab (rows * cols) (down_at rows cols lv) 255 y h);
      }

  module _ (kept : StepsKept rows cols lv st) where
    -- a flat cell's steps are not 0: the walk that they stand for has a step
    steps-some : (x : ℕ) → flat_at rows cols lv x ≡ true → 0 < get_or st x 0
    steps-some x e = elim (dec_lt 0 (get_or st x 0)) [ yes h ↦ h | no f ↦ absurd (let w = kept.stands x e (omega arith) in omega (arith, w.1, some w.0 e)) ]
      where
        some : {y : ℕ} (w : Walk rows cols lv y) → flat_at rows cols lv y ≡ true → 0 < walked rows cols lv w
        some (there y v f) e = absurd (true≢false (sym e ∙ f))
        some (on y k v h s w) e = omega arith

    -- the cells with steps are flat, and those with none point as written before
    direction-flat : (x : ℕ) → 0 < get_or st x 0 → direction_at rows cols lv st x ≡ code_of (nearer_bearing rows cols lv st x)
    unfolding direction_at
    direction-flat x h =
        let e = kept-active (flat_stepping rows cols lv) (Within rows cols lv) st kept x h in
        let n = flat-inland rows cols lv x e in
        code-flat (valid_at lv x) (has_lower rows cols lv x) (rim_at rows cols lv x) (code_of (steep_bearing rows cols lv x)) (code_of (nearer_bearing rows cols lv st x)) (lt-ltb 0 (get_or lv x 0) (flat-valid rows cols lv x e)) n.0 n.1

    direction-down : (x : ℕ) → get_or st x 0 ≤ 0 → direction_at rows cols lv st x ≡ down_at rows cols lv x
    unfolding direction_at down_at steepest_in
    direction-down x h =
        code-down (valid_at lv x) (has_lower rows cols lv x) (rim_at rows cols lv x) (code_of (steep_bearing rows cols lv x)) (code_of (nearer_bearing rows cols lv st x))
        (λ v l r. omega (arith, steps-some x (flat-is rows cols lv x (ltb-true 0 (get_or lv x 0) v) l r)))

  module _ {dir dir' : List ℕ} {x : ℕ} (p : Pointing rows cols lv st dir x) (kept : StepsKept rows cols lv st) (l : x < rows * cols) where
    -- a flat cell gets its code, and any other keeps it
    pub point-flat : {code : ℕ} → 0 < get_or st x 0 → code ≡ code_of (nearer_bearing rows cols lv st x) → dir' ≡ set dir x code → Pointing rows cols lv st dir' (x + 1)
    point-flat {code} h q e =
        subst (λ (d : List ℕ). Pointing rows cols lv st d (x + 1)) (sym e)
        (record {
          long = length-set dir x code ∙ p.long;
          done = agrees-more (direction_at rows cols lv st) 255 dir x code (omega (arith, p.long)) p.done (q ∙ sym (direction-flat kept x h));
          rest = (λ y g h. get_or-set_other dir x y code 255 (λ r. omega arith) ∙ p.rest y (omega arith) h);
        })

    pub point-kept : get_or st x 0 ≤ 0 → dir' ≡ dir → Pointing rows cols lv st dir' (x + 1)
    point-kept h e =
        subst (λ (d : List ℕ). Pointing rows cols lv st d (x + 1)) (sym e)
        (record {
          long = p.long;
          done = below_more (λ (j : ℕ). get_or dir j 255 ≡ direction_at rows cols lv st j) x p.done (p.rest x (omega arith) l ∙ sym (direction-down kept x h));
          rest = (λ y g h. p.rest y (omega arith) h);
        })

  pub point-all : {dir : List ℕ} → st ≡ flat_steps rows cols lv → Pointing rows cols lv st dir (rows * cols) → dir ≡ directions_of rows cols lv
  unfolding directions_of
  point-all {dir} e p = agrees-tab (direction_at rows cols lv st) 255 dir (rows * cols) p.long p.done ∙ ap (λ (d : List ℕ). tab (rows * cols) (direction_at rows cols lv d)) e
