-- Laws of neighbours, codes, heights and levels. Assumes nothing.
use Rattle.std.proofs.Common.{◌≡◌, ℕ, zero, suc, ◌+◌, ◌-◌, ◌*◌, ◌/◌, ◌%◌, ◌^◌, ◌<◌, ◌≤◌, max, Bool, true, false, cond, not, ◌&&◌, ◌||◌, T, eqb, ltb, leb, ◌⊎◌, List, [], ◌∷◌, length, get_or, ℤ, pos, negsuc, ◌+ℤ◌, ◌≤ℤ◌, sym, refl, ap, ◌∙◌, subst, ap₂, inl, inr, ⊎_elim, true≢false, mul-le-mul_right, mod-lt, mod-eq_of_lt, div-lt_iff_lt-mul, div-add-mod', arith, le→leb, leb→le, w32, SFits, ltb-false, ltb-true, le-ltb, lt-ltb, eqb-true, leb-false, leb-true}
use native.Mathlib.Nat.{mul-add-div_right, mul-add-mod_self_right, div-eq_of_lt}
use native.Mathlib.Decide.{dec_lt, ℕ_discrete}
use lib.ListN.{length-map, get_or-map, get_or-eq_default}
use lib.Signed.{le_z, mag}
use borrow.Author.Tests.{not-true}
use Rattle.laws.specs.First.{first_of}
use Rattle.laws.proofs.First.{first_holds, some_is, some-yes}
use Rattle.laws.proofs.Lists.{get_or_any}
use Rattle.laws.proofs.Tests.{and_both}
use Rattle.text.specs.Ranges.{height_accepted}
use Rattle.text.proofs.Accepted.{area_small}
use Rattle.text.specs.Quantities.{datum}
use Rattle.terrain.specs.Cells.{no_data, Fine, row_steps, col_steps, cell_at, neighbour, code_of, bearing_of, Valid, level_of, height_of, levels_of, valid_at, rim_at}
use Rattle.terrain.specs.Filled.{top}
use Rattle.terrain.specs.InnerCells.{Ready}
use Rattle.terrain.specs.Surfaces.{max_z}

-- ---- the bearings

-- what holds of each bearing, by the eight
pub each-bearing : (P : ℕ → Type 0) → P 0 → P 1 → P 2 → P 3 → P 4 → P 5 → P 6 → P 7 → (k : ℕ) → k < 8 → P k
each-bearing P a b c d e f g h zero l = a
each-bearing P a b c d e f g h (suc zero) l = b
each-bearing P a b c d e f g h (suc (suc zero)) l = c
each-bearing P a b c d e f g h (suc (suc (suc zero))) l = d
each-bearing P a b c d e f g h (suc (suc (suc (suc zero)))) l = e
each-bearing P a b c d e f g h (suc (suc (suc (suc (suc zero))))) l = f
each-bearing P a b c d e f g h (suc (suc (suc (suc (suc (suc zero)))))) l = g
each-bearing P a b c d e f g h (suc (suc (suc (suc (suc (suc (suc zero))))))) l = h
each-bearing P a b c d e f g h (suc (suc (suc (suc (suc (suc (suc (suc k)))))))) l = absurd (omega arith)

-- a step is at most 2, so that sums with it stay small
pub row-step-le : (k : ℕ) → k < 8 → get_or row_steps k 0 ≤ 2
row-step-le = each-bearing (λ k. get_or row_steps k 0 ≤ 2) (omega arith) (omega arith) (omega arith) (omega arith) (omega arith) (omega arith) (omega arith) (omega arith)

pub col-step-le : (k : ℕ) → k < 8 → get_or col_steps k 0 ≤ 2
col-step-le = each-bearing (λ k. get_or col_steps k 0 ≤ 2) (omega arith) (omega arith) (omega arith) (omega arith) (omega arith) (omega arith) (omega arith) (omega arith)

-- the bearing across
abbrev pub across : ℕ → ℕ
across k = get_or (4 ∷ 5 ∷ 6 ∷ 7 ∷ 0 ∷ 1 ∷ 2 ∷ 3 ∷ []) k 0

pub across-small : (k : ℕ) → k < 8 → across k < 8
across-small = each-bearing (λ k. across k < 8) (omega arith) (omega arith) (omega arith) (omega arith) (omega arith) (omega arith) (omega arith) (omega arith)

across-rows : (k : ℕ) → k < 8 → get_or row_steps k 0 + get_or row_steps (across k) 0 ≡ 2
across-rows = each-bearing (λ k. get_or row_steps k 0 + get_or row_steps (across k) 0 ≡ 2) refl refl refl refl refl refl refl refl

across-cols : (k : ℕ) → k < 8 → get_or col_steps k 0 + get_or col_steps (across k) 0 ≡ 2
across-cols = each-bearing (λ k. get_or col_steps k 0 + get_or col_steps (across k) 0 ≡ 2) refl refl refl refl refl refl refl refl

-- the bearing by one more than its row step and its column step
abbrev bearings_by_steps : List ℕ
bearings_by_steps = 5 ∷ 6 ∷ 7 ∷ 4 ∷ 0 ∷ 0 ∷ 3 ∷ 2 ∷ 1 ∷ []

bearing-by-steps : (k : ℕ) → k < 8 → get_or bearings_by_steps (get_or row_steps k 0 * 3 + get_or col_steps k 0) 0 ≡ k
bearing-by-steps = each-bearing (λ k. get_or bearings_by_steps (get_or row_steps k 0 * 3 + get_or col_steps k 0) 0 ≡ k) refl refl refl refl refl refl refl refl

steps-tell : (j k : ℕ) → j < 8 → k < 8 → get_or row_steps j 0 ≡ get_or row_steps k 0 → get_or col_steps j 0 ≡ get_or col_steps k 0 → j ≡ k
steps-tell j k g h e f = sym (bearing-by-steps j g) ∙ ap₂ (λ (r c : ℕ). get_or bearings_by_steps (r * 3 + c) 0) e f ∙ bearing-by-steps k h

-- a bearing leads to another row or another column
steps-move : (k : ℕ) → k < 8 → get_or row_steps k 0 ≡ 1 → get_or col_steps k 0 ≡ 1 → ⊥
steps-move =
    each-bearing (λ k. get_or row_steps k 0 ≡ 1 → get_or col_steps k 0 ≡ 1 → ⊥) (λ r c. omega arith) (λ r c. omega arith) (λ r c. omega arith) (λ r c. omega arith) (λ r c. omega arith) (λ r c. omega arith)
    (λ r c. omega arith) (λ r c. omega arith)

-- ---- codes

pub bearing-code : (k : ℕ) → k < 8 → bearing_of (code_of k) ≡ k
unfolding bearing_of first_of
bearing-code = each-bearing (λ k. bearing_of (code_of k) ≡ k) refl refl refl refl refl refl refl refl

pub code-some : (k : ℕ) → k < 8 → 0 < code_of k
code-some = each-bearing (λ k. 0 < code_of k) (omega arith) (omega arith) (omega arith) (omega arith) (omega arith) (omega arith) (omega arith) (omega arith)

pub code-small : (k : ℕ) → code_of k ≤ 128
code-small k =
    elim (dec_lt k 8) [
      | yes h ↦ each-bearing (λ j. code_of j ≤ 128) (omega arith) (omega arith) (omega arith) (omega arith) (omega arith) (omega arith) (omega arith) (omega arith) k h
      | no f ↦ omega (arith, get_or-eq_default {A = ℕ} (1 ∷ 2 ∷ 4 ∷ 8 ∷ 16 ∷ 32 ∷ 64 ∷ 128 ∷ []) 0 {n = k} (omega arith))
    ]

-- what has a bearing is that bearing's code
pub code-bearing : (code : ℕ) → bearing_of code < 8 → code ≡ code_of (bearing_of code)
unfolding bearing_of
code-bearing code h = eqb-true code (code_of (bearing_of code)) (first_holds (λ k. eqb code (code_of k)) 8 h)

pub bearing-leaves : bearing_of 0 ≡ 8
unfolding bearing_of first_of
bearing-leaves = refl

pub bearing-none : bearing_of 255 ≡ 8
unfolding bearing_of first_of
bearing-none = refl

-- ---- neighbours

-- y is the cell of row a - 1 and column b - 1
pub record InGrid (rows cols a b y : ℕ) : Type 0 where
  pub up : 1 ≤ a
  pub down : a ≤ rows
  pub left : 1 ≤ b
  pub right : b ≤ cols
  pub is : y ≡ (a - 1) * cols + (b - 1)

pub cell-cases : (rows cols a b : ℕ) → (cell_at rows cols a b ≡ rows * cols) ⊎ InGrid rows cols a b (cell_at rows cols a b)
unfolding cell_at
cell-cases rows cols a b =
    elim (dec_lt a 1) [
      | yes h ↦ inl (simp (lt-ltb a 1 h))
      | no fa ↦
          elim (dec_lt rows a) [
            | yes h ↦ inl (simp (le-ltb a 1 (omega arith), lt-ltb rows a h))
            | no fr ↦
                elim (dec_lt b 1) [
                  | yes h ↦ inl (simp (le-ltb a 1 (omega arith), le-ltb rows a (omega arith), lt-ltb b 1 h))
                  | no fb ↦
                      elim (dec_lt cols b) [
                        | yes h ↦ inl (simp (le-ltb a 1 (omega arith), le-ltb rows a (omega arith), le-ltb b 1 (omega arith), lt-ltb cols b h))
                        | no fc ↦
                            inr (record { up = omega arith; down = omega arith; left = omega arith; right = omega arith; is = simp (le-ltb a 1 (omega arith), le-ltb rows a (omega arith), le-ltb b 1 (omega arith), le-ltb cols b (omega arith)) })
                      ]
                ]
          ]
    ]

pub cell_in : (rows cols a b : ℕ) → 1 ≤ a → a ≤ rows → 1 ≤ b → b ≤ cols → cell_at rows cols a b ≡ (a - 1) * cols + (b - 1)
unfolding cell_at
cell_in rows cols a b u d l r = simp (le-ltb a 1 u, le-ltb rows a d, le-ltb b 1 l, le-ltb cols b r)

-- a cell in the grid has an index below rows * cols
pub in-grid-lt : (rows cols a b y : ℕ) → InGrid rows cols a b y → y < rows * cols
in-grid-lt rows cols a b y h = omega (arith, h.is, mul-le-mul_right cols (before h.up h.down))
  where
    before : 1 ≤ a → a ≤ rows → suc (a - 1) ≤ rows
    before u d = omega arith

pub index-small : (rows cols a b : ℕ) → rows ≤ 1024 → cols ≤ 1024 → 1 ≤ a → a ≤ rows → 1 ≤ b → b ≤ cols → (a - 1) * cols + (b - 1) < 1048576
index-small rows cols a b h k u d l r = omega (arith, area_small rows cols h k, in-grid-lt rows cols a b ((a - 1) * cols + (b - 1)) (record { up = u; down = d; left = l; right = r; is = refl }))

-- the row and the column of an index
pub row_of : (cols r c : ℕ) → c < cols → (r * cols + c) / cols ≡ r
row_of cols r c h = mul-add-div_right (omega arith) r c ∙ ap (λ (m : ℕ). r + m) (div-eq_of_lt h) ∙ omega arith

pub col-of : (cols r c : ℕ) → c < cols → (r * cols + c) % cols ≡ c
col-of cols r c h = mul-add-mod_self_right r cols c ∙ mod-eq_of_lt h

module _ (rows cols : ℕ) where
  pub neighbour-cases : (x k : ℕ) → (neighbour rows cols x k ≡ rows * cols) ⊎ InGrid rows cols (x / cols + get_or row_steps k 0) (x % cols + get_or col_steps k 0) (neighbour rows cols x k)
  unfolding neighbour
  neighbour-cases x k = cell-cases rows cols (x / cols + get_or row_steps k 0) (x % cols + get_or col_steps k 0)

  -- the neighbour to the west is no cell, or the index before
  pub west : (x : ℕ) → 0 < cols → (neighbour rows cols x 4 ≡ rows * cols) ⊎ (neighbour rows cols x 4 < x)
  west x p = ⊎_elim inl (λ h. inr (let e : x / cols + 1 - 1 ≡ x / cols = omega arith in omega (arith, h.is, h.left, div-add-mod' x cols, ap (λ (q : ℕ). q * cols) e))) (neighbour-cases x 4)

  -- a neighbour's neighbour at the bearing across is the cell itself
  pub neighbour-back : (x k : ℕ) → x < rows * cols → k < 8 → neighbour rows cols x k < rows * cols → neighbour rows cols (neighbour rows cols x k) (across k) ≡ x
  unfolding neighbour
  neighbour-back x k l h y = ⊎_elim (λ e. absurd (omega arith)) go (neighbour-cases x k)
    where
      go : InGrid rows cols (x / cols + get_or row_steps k 0) (x % cols + get_or col_steps k 0) (neighbour rows cols x k) → neighbour rows cols (neighbour rows cols x k) (across k) ≡ x
      go i =
          let a = x / cols + get_or row_steps k 0 in
          let b = x % cols + get_or col_steps k 0 in
          let wide : 0 < cols = omega (arith, i.left, i.right) in
          let r : neighbour rows cols x k / cols + get_or row_steps (across k) 0 ≡ x / cols + 1 = omega (arith, ap (λ (m : ℕ). m / cols) i.is ∙ row_of cols (a - 1) (b - 1) (omega (arith, i.left, i.right)), across-rows k h, i.up) in
          let c : neighbour rows cols x k % cols + get_or col_steps (across k) 0 ≡ x % cols + 1 = omega (arith, ap (λ (m : ℕ). m % cols) i.is ∙ col-of cols (a - 1) (b - 1) (omega (arith, i.left, i.right)), across-cols k h, i.left) in
          ap₂ (cell_at rows cols) r c
          ∙ cell_in rows cols (x / cols + 1) (x % cols + 1) (omega arith) (omega (arith, (div-lt_iff_lt-mul wide).1 l)) (omega arith) (omega (arith, mod-lt x wide))
          ∙ (let e : x / cols + 1 - 1 ≡ x / cols = omega arith in omega (arith, ap (λ (m : ℕ). m * cols) e, div-add-mod' x cols))

  -- no two bearings of a cell have one neighbour
  pub neighbour-only : (x j k : ℕ) → j < 8 → k < 8 → neighbour rows cols x j < rows * cols → neighbour rows cols x j ≡ neighbour rows cols x k → j ≡ k
  neighbour-only x j k g h y e = ⊎_elim (λ q. absurd (omega arith)) (λ i. ⊎_elim (λ q. absurd (omega arith)) (λ i'. go i i') (neighbour-cases x k)) (neighbour-cases x j)
    where
      go : InGrid rows cols (x / cols + get_or row_steps j 0) (x % cols + get_or col_steps j 0) (neighbour rows cols x j) → InGrid rows cols (x / cols + get_or row_steps k 0) (x % cols + get_or col_steps k 0) (neighbour rows cols x k) → j ≡ k
      go i i' =
          let q = sym i.is ∙ e ∙ i'.is in
          steps-tell j k g h
          (omega (arith, i.up, i'.up, sym (row_of cols _ _ (omega (arith, i.left, i.right))) ∙ ap (λ (m : ℕ). m / cols) q ∙ row_of cols _ _ (omega (arith, i'.left, i'.right))))
          (omega (arith, i.left, i'.left, sym (col-of cols _ _ (omega (arith, i.left, i.right))) ∙ ap (λ (m : ℕ). m % cols) q ∙ col-of cols _ _ (omega (arith, i'.left, i'.right))))

  -- a neighbour is another cell
  pub neighbour-apart : (x k : ℕ) → k < 8 → neighbour rows cols x k < rows * cols → neighbour rows cols x k ≡ x → ⊥
  neighbour-apart x k h y e = ⊎_elim (λ q. absurd (omega arith)) go (neighbour-cases x k)
    where
      go : InGrid rows cols (x / cols + get_or row_steps k 0) (x % cols + get_or col_steps k 0) (neighbour rows cols x k) → ⊥
      go i =
          let q = sym e ∙ i.is in
          steps-move k h (omega (arith, i.up, ap (λ (m : ℕ). m / cols) q ∙ row_of cols _ _ (omega (arith, i.left, i.right))))
          (omega (arith, i.left, ap (λ (m : ℕ). m % cols) q ∙ col-of cols _ _ (omega (arith, i.left, i.right))))

-- ---- heights and levels

pub height-level : (z : ℤ) → Fine z → height_of (level_of z) ≡ z
unfolding level_of height_of
height-level (pos n) h = simp (le-ltb (datum + n) datum (omega arith)) (ap pos (omega arith))
height-level (negsuc n) h = simp (lt-ltb (datum - (n + 1)) datum (omega arith)) (ap negsuc (omega arith))

pub level-height : (v : ℕ) → level_of (height_of v) ≡ v
unfolding level_of height_of
level-height v = go (ltb v datum) refl
  where
    go : (b : Bool) → ltb v datum ≡ b → level_of (cond b (negsuc (datum - suc v)) (pos (v - datum))) ≡ v
    go true e = omega (arith, ltb-true v datum e)
    go false e = omega (arith, ltb-false v datum e)

pub level-none : level_of no_data ≡ 0
unfolding level_of
level-none = refl

pub height-none : height_of 0 ≡ no_data
unfolding height_of
height-none = refl

pub level-zero : (z : ℤ) → Fine z → level_of z ≡ 0 → z ≡ no_data
unfolding level_of
level-zero (pos n) h e = absurd (omega arith)
level-zero (negsuc n) h e = ap negsuc (omega arith)

pub level-fine : (z : ℤ) → Fine z → level_of z < top
unfolding level_of
level-fine (pos n) h = omega arith
level-fine (negsuc n) h = omega arith

-- levels keep the order of heights
pub level-le : (y z : ℤ) → y ≤ℤ z → level_of y ≤ level_of z
unfolding level_of
level-le (pos m) (pos n) h = omega (arith, leb→le m n h.le)
level-le (pos m) (negsuc n) h = absurd h.le
level-le (negsuc m) (pos n) h = omega arith
level-le (negsuc m) (negsuc n) h = omega (arith, leb→le n m h.le)

level-gt : (a b : ℤ) → le_z a b ≡ false → level_of b ≤ level_of a
unfolding level_of
level-gt (pos m) (pos n) e = omega (arith, leb-false m n e)
level-gt (pos m) (negsuc n) e = omega arith
level-gt (negsuc m) (pos n) e = absurd (true≢false e)
level-gt (negsuc m) (negsuc n) e = omega (arith, leb-false n m e)

pub level-max : (a b : ℤ) → level_of (max_z a b) ≡ max (level_of a) (level_of b)
level-max a b = go (le_z a b) refl
  where
    go : (t : Bool) → le_z a b ≡ t → level_of (cond t b a) ≡ max (level_of a) (level_of b)
    go true e = omega (arith, level-le a b (record { le = subst T (sym e) tt }))
    go false e = omega (arith, level-gt a b e)

-- and heights that of levels: a level above 0 that is at most a height's
pub height-le : (v : ℕ) (z : ℤ) → 0 < v → v ≤ level_of z → height_of v ≤ℤ z
unfolding level_of height_of
height-le v z p h = go (ltb v datum) refl z h
  where
    go : (b : Bool) → ltb v datum ≡ b → (z : ℤ) → v ≤ level_of z → cond b (negsuc (datum - suc v)) (pos (v - datum)) ≤ℤ z
    go true e (pos n) h = record { le = tt }
    go true e (negsuc n) h = record { le = le→leb n (datum - suc v) (omega (arith, ltb-true v datum e)) }
    go false e (pos n) h = record { le = le→leb (v - datum) n (omega (arith, ltb-false v datum e)) }
    go false e (negsuc n) h = absurd (omega (arith, ltb-false v datum e))

-- what the machine makes of z + 999,900 and of v - 999,900
pub sum_level : (z : ℤ) → Fine z → z +ℤ pos datum ≡ pos (level_of z)
unfolding level_of
sum_level (pos n) h = ap pos (omega arith)
sum_level (negsuc n) h = simp (le-ltb datum (suc n) (omega arith)) (ap pos (omega arith))

pub difference-height : (v : ℕ) → pos v +ℤ negsuc 999899 ≡ height_of v
unfolding height_of
difference-height v = refl

pub height-mag : (v : ℕ) → v < 2000000 → mag (height_of v) < 2 ^ 31
unfolding height_of
height-mag v h = go (ltb v datum)
  where
    go : (b : Bool) → mag (cond b (negsuc (datum - suc v)) (pos (v - datum))) < 2 ^ 31
    go true = omega arith
    go false = omega arith

pub fine-fits : (z : ℤ) → Fine z → SFits w32 z
fine-fits (pos n) h = record { sfits = omega arith }
fine-fits (negsuc n) h = record { sfits = omega arith }

-- an accepted height is fine
pub accepted-fine : (z : ℤ) → height_accepted z ≡ true → Fine z
unfolding height_accepted
accepted-fine (pos n) e = leb-true n 900000 e
accepted-fine (negsuc n) e = go (leb 999899 n) (leb n 999899) refl (leb n 49999) refl e
  where
    go : (a b : Bool) → leb n 999899 ≡ b → (c : Bool) → leb n 49999 ≡ c → ((a && b) || (c && true)) ≡ true → n < datum
    go true true q c r e = omega (arith, leb-true n 999899 q)
    go true false q true r e = omega (arith, leb-true n 49999 r)
    go true false q false r e = absurd (true≢false (sym e))
    go false b q true r e = omega (arith, leb-true n 49999 r)
    go false b q false r e = absurd (true≢false (sym e))

-- ---- a grid of levels

pub level-at : (elevation : List ℤ) (x : ℕ) → get_or (levels_of elevation) x 0 ≡ level_of (get_or elevation x no_data)
unfolding levels_of level_of
level-at elevation x = get_or-map level_of elevation x no_data

-- as the code reads it
pub level-read : (elevation : List ℤ) (x : ℕ) → x < length elevation → get_or (levels_of elevation) x 0 ≡ level_of (get_or elevation x (pos 0))
level-read elevation x h = level-at elevation x ∙ ap level_of (get_or_any elevation x no_data (pos 0) h)

pub levels-long : {rows cols : ℕ} {elevation : List ℤ} → Ready rows cols elevation → length (levels_of elevation) ≡ rows * cols
unfolding levels_of
levels-long {elevation = elevation} r = length-map elevation level_of ∙ r.long

module _ {rows cols : ℕ} {elevation : List ℤ} (ready : Ready rows cols elevation) where
  pub fine-at : (x : ℕ) → Fine (get_or elevation x no_data)
  fine-at x =
      elim (dec_lt x (length elevation)) [
        | yes h ↦ subst Fine (get_or_any elevation x (pos 0) no_data h) (ready.fine x h)
        | no f ↦ subst Fine (sym (get_or-eq_default elevation no_data {n = x} (omega arith))) (omega arith)
      ]

  pub level-top : (x : ℕ) → get_or (levels_of elevation) x 0 < top
  level-top x = rw level-at (level-fine (get_or elevation x no_data) (fine-at x))

  pub valid-level : (x : ℕ) → Valid elevation x → 0 < get_or (levels_of elevation) x 0
  valid-level x v = elim (ℕ_discrete (get_or (levels_of elevation) x 0) 0) [ yes e ↦ absurd (v (level-zero (get_or elevation x no_data) (fine-at x) (sym (level-at elevation x) ∙ e))) | no f ↦ omega arith ]

  pub level-valid : (x : ℕ) → 0 < get_or (levels_of elevation) x 0 → Valid elevation x
  level-valid x v e = omega (arith, level-at elevation x ∙ ap level_of e ∙ level-none)

  pub none-level : (x : ℕ) → get_or elevation x no_data ≡ no_data → get_or (levels_of elevation) x 0 ≡ 0
  none-level x e = level-at elevation x ∙ ap level_of e ∙ level-none

  pub level-invalid : (x : ℕ) → get_or (levels_of elevation) x 0 ≡ 0 → get_or elevation x no_data ≡ no_data
  level-invalid x e = level-zero (get_or elevation x no_data) (fine-at x) (sym (level-at elevation x) ∙ e)

-- ---- rim cells over levels

module _ (rows cols : ℕ) (lv : List ℕ) where
  -- a rim cell is valid
  pub rim-valid : (x : ℕ) → rim_at rows cols lv x ≡ true → valid_at lv x ≡ true
  unfolding rim_at
  rim-valid x e = (and_both (valid_at lv x) _ e).0

  -- and sees a 0
  pub rim-open : (x : ℕ) → rim_at rows cols lv x ≡ true → (k : ℕ) × (k < 8) × (get_or lv (neighbour rows cols x k) 0 ≡ 0)
  unfolding rim_at
  rim-open x e =
      let q = some_is (λ k. not (valid_at lv (neighbour rows cols x k))) 8 (and_both (valid_at lv x) _ e).1 in
      (q.0, q.1, omega (arith, ltb-false 0 (get_or lv (neighbour rows cols x q.0) 0) (not-true (valid_at lv (neighbour rows cols x q.0)) q.2)))

  pub open-rim : (x k : ℕ) → 0 < get_or lv x 0 → k < 8 → get_or lv (neighbour rows cols x k) 0 ≡ 0 → rim_at rows cols lv x ≡ true
  unfolding rim_at
  open-rim x k v h e =
      rw (lt-ltb 0 (get_or lv x 0) v) (some-yes (λ j. not (valid_at lv (neighbour rows cols x j))) 8 k h (ap not (le-ltb 0 (get_or lv (neighbour rows cols x k) 0) (omega arith))))

  -- a valid cell that is no rim cell has eight valid neighbours
  pub inland-valid : (x k : ℕ) → 0 < get_or lv x 0 → rim_at rows cols lv x ≡ false → k < 8 → 0 < get_or lv (neighbour rows cols x k) 0
  inland-valid x k v e h = elim (ℕ_discrete (get_or lv (neighbour rows cols x k) 0) 0) [ yes z ↦ absurd (true≢false (sym (open-rim x k v h z) ∙ e)) | no f ↦ omega arith ]
