-- The filled levels: lowering until still is a rule whose levels runs attain and stay above, so any order of lowering gives the definition's. Assumes nothing.
use Rattle.std.proofs.Common.{◌≡◌, ℕ, zero, suc, ◌+◌, ◌*◌, ◌<◌, ◌≤◌, min, max, Bool, true, false, cond, List, length, get_or, ℤ, sym, refl, ap, ◌∙◌, ⊎_elim, add-one, arith, ltb-true, le-ltb, lt-ltb}
use native.Mathlib.Decide.{dec_le, dec_lt, ℕ_discrete}
use lib.ListN.{get_or-map, get_or-eq_default}
use lib.Signed.{le_z}
use Rattle.laws.specs.Settle.{Rule, Still}
use Rattle.laws.proofs.Settle.{settled-done, done-is}
use Rattle.laws.proofs.Lists.{in_list}
use Rattle.terrain.specs.Cells.{no_data, Fine, neighbour, Valid, level_of, height_of, levels_of, valid_at}
use Rattle.terrain.specs.InnerCells.{Ready}
use Rattle.terrain.specs.Surfaces.{Run, last, step, highest_of, max_z}
use Rattle.terrain.specs.Filled.{top, lowest_of, filling, filled_levels, filled_of}
use Rattle.terrain.specs.InnerFlood.{Stands, FillKept}
use Rattle.terrain.proofs.Neighbours.{west, level-at, level-max, level-fine, levels-long, level-height, fine-at, valid-level, level-valid, none-level, level-invalid}

-- ---- the lowest neighbour

module _ (rows cols : ℕ) (l : List ℕ) (x : ℕ) where
  pub lowest-none : lowest_of rows cols l x 0 ≡ top
  unfolding lowest_of
  lowest-none = refl

  -- one bearing more, as a loop counts
  pub lowest-more : (k : ℕ) → lowest_of rows cols l x (k + 1) ≡ min (lowest_of rows cols l x k) (get_or l (neighbour rows cols x k) 0)
  unfolding lowest_of
  lowest-more k = rw add-one

  pub lowest-le : (k n : ℕ) → k < n → lowest_of rows cols l x n ≤ get_or l (neighbour rows cols x k) 0
  unfolding lowest_of
  lowest-le k zero h = absurd (omega arith)
  lowest-le k (suc n) h =
      elim (ℕ_discrete k n) [ yes e ↦ omega (arith, ap (λ (j : ℕ). get_or l (neighbour rows cols x j) 0) e) | no f ↦ omega (arith, lowest-le k n (omega arith)) ]

  pub lowest-is : (n : ℕ) → lowest_of rows cols l x n < top → (k : ℕ) × (k < n) × (get_or l (neighbour rows cols x k) 0 ≡ lowest_of rows cols l x n)
  unfolding lowest_of
  lowest-is zero h = absurd (omega arith)
  lowest-is (suc n) h =
      elim (dec_le (lowest_of rows cols l x n) (get_or l (neighbour rows cols x n) 0))
      [ yes le ↦ let i = lowest-is n (omega arith) in (i.0, omega (arith, i.1), omega (arith, i.2)) | no f ↦ (n, omega arith, omega arith) ]

  pub lowest-top : (n : ℕ) → lowest_of rows cols l x n ≤ top
  unfolding lowest_of
  lowest-top zero = omega arith
  lowest-top (suc n) = omega (arith, lowest-top n)

-- ---- the rule

max-fine : (a b : ℤ) → Fine a → Fine b → Fine (max_z a b)
max-fine a b f h = go (le_z a b)
  where
    go : (t : Bool) → Fine (cond t b a)
    go true = h
    go false = f

module _ (rows cols : ℕ) (elevation : List ℤ) (ready : Ready rows cols elevation) where
  abbrev g : List ℕ
  g = levels_of elevation

  abbrev nb : ℕ → ℕ → ℕ
  nb = neighbour rows cols

  active : (x : ℕ) → 0 < get_or g x 0 → valid_at g x ≡ true
  active x v = lt-ltb 0 (get_or g x 0) v

  -- a rim cell can stand at its ground
  pub stands-rim : (x k v : ℕ) → 0 < get_or g x 0 → k < 8 → get_or g (nb x k) 0 ≡ 0 → get_or g x 0 ≤ v → Stands rows cols elevation x v
  stands-rim x k v p h e le = (last x (record { valid = level-valid ready x p; bearing = k; small = h; none = level-invalid ready (nb x k) e }), omega (arith, level-at elevation x))

  -- a cell can stand at the higher of its ground and a neighbour's level
  pub stands-beside : (l : List ℕ) → FillKept rows cols elevation l → (x k v : ℕ) → 0 < get_or g x 0 → k < 8 → get_or l (nb x k) 0 < top → max (get_or g x 0) (get_or l (nb x k) 0) ≤ v → Stands rows cols elevation x v
  stands-beside l kept x k v p h low le =
      elim (ℕ_discrete (get_or g (nb x k) 0) 0) [
        | yes z ↦ stands-rim x k v p h z (omega arith)
        | no f ↦ (let s = kept.stands (nb x k) (active (nb x k) (omega arith)) low in (step x k (level-valid ready x p) h s.0, omega (arith, s.1, level-at elevation x, level-max (get_or elevation x no_data) (highest_of rows cols elevation s.0))))
      ]

  pub run-valid : {x : ℕ} → Run rows cols elevation x → Valid elevation x
  run-valid (last x r) = r.valid
  run-valid (step x k v h r) = v

  -- no run stays below a list that no offer lowers
  pub still-least : (l : List ℕ) → FillKept rows cols elevation l → Still (filling rows cols (levels_of elevation)) l → {x : ℕ} (r : Run rows cols elevation x) → get_or l x 0 ≤ level_of (highest_of rows cols elevation r)
  still-least l k s (last x r) =
      omega (arith, s x (active x (valid-level ready x r.valid)), lowest-le rows cols l x r.bearing 8 r.small, k.clear (nb x r.bearing) (le-ltb 0 (get_or g (nb x r.bearing) 0) (omega (arith, none-level ready (nb x r.bearing) r.none))), level-at elevation x)
  still-least l k s (step x j v h r) =
      omega (arith, s x (active x (valid-level ready x v)), lowest-le rows cols l x j 8 h, still-least l k s r, level-at elevation x, level-max (get_or elevation x no_data) (highest_of rows cols elevation r))

  pub filling-rule : Rule (filling rows cols (levels_of elevation)) (Stands rows cols elevation)
  filling-rule =
      record {
        within = (λ x a. omega (arith, in_list g x (ltb-true 0 (get_or g x 0) a), levels-long ready));
        fair = fair;
        least = (λ l k s x a v p. omega (arith, still-least l k s p.0, p.1));
      }
    where
      fair : (l : List ℕ) → FillKept rows cols elevation l → (x : ℕ) → valid_at g x ≡ true → max (get_or g x 0) (lowest_of rows cols l x 8) < top → Stands rows cols elevation x (max (get_or g x 0) (lowest_of rows cols l x 8))
      fair l k x a h = let i = lowest-is rows cols l x 8 (omega arith) in stands-beside l k x i.0 _ (ltb-true 0 (get_or g x 0) a) i.1 (omega (arith, i.2)) (omega (arith, i.2))

  -- ---- the definition, and any list like it

  pub filled-kept : FillKept rows cols elevation (filled_levels rows cols elevation)
  unfolding filled_levels
  filled-kept = (settled-done (filling rows cols g) (Stands rows cols elevation) filling-rule).0

  pub filled-still : Still (filling rows cols (levels_of elevation)) (filled_levels rows cols elevation)
  unfolding filled_levels
  filled-still = (settled-done (filling rows cols g) (Stands rows cols elevation) filling-rule).1

  pub filled_is : (l : List ℕ) → FillKept rows cols elevation l → Still (filling rows cols (levels_of elevation)) l → l ≡ filled_levels rows cols elevation
  unfolding filled_levels
  filled_is l k s = done-is (filling rows cols g) (Stands rows cols elevation) filling-rule l k s

  -- ---- every valid cell has a run: to the west

  run-below : (n x : ℕ) → x < n → 0 < get_or g x 0 → Run rows cols elevation x
  run-below zero x h v = absurd (omega arith)
  run-below (suc n) x h v =
      elim (ℕ_discrete (get_or g (nb x 4) 0) 0) [
        | yes z ↦ last x (record { valid = level-valid ready x v; bearing = 4; small = omega arith; none = level-invalid ready (nb x 4) z })
        | no f ↦ step x 4 (level-valid ready x v) (omega arith) (run-below n (nb x 4) (omega (arith, ⊎_elim (λ e. absurd (f (get_or-eq_default g 0 {n = nb x 4} (omega (arith, levels-long ready))))) (λ lt. lt) (west rows cols x ready.cols-some))) (omega arith))
      ]

  pub every-run : (x : ℕ) → 0 < get_or g x 0 → Run rows cols elevation x
  every-run x v = run-below (suc x) x (omega arith) v

  pub greatest-fine : {x : ℕ} (r : Run rows cols elevation x) → Fine (highest_of rows cols elevation r)
  greatest-fine (last x r) = fine-at ready x
  greatest-fine (step x k v h r) = max-fine (get_or elevation x no_data) (highest_of rows cols elevation r) (fine-at ready x) (greatest-fine r)

  greatest-ground : {x : ℕ} (r : Run rows cols elevation x) → get_or g x 0 ≤ level_of (highest_of rows cols elevation r)
  greatest-ground (last x r) = omega (arith, level-at elevation x)
  greatest-ground (step x k v h r) = omega (arith, level-at elevation x, level-max (get_or elevation x no_data) (highest_of rows cols elevation r))

  -- ---- what is true of the filled levels

  abbrev lv : List ℕ
  lv = filled_levels rows cols elevation

  pub filled-long : length (filled_levels rows cols elevation) ≡ rows * cols
  filled-long = filled-kept.long

  -- a cell that is not valid stands at 0
  pub filled-clear : (x : ℕ) → get_or (levels_of elevation) x 0 ≡ 0 → get_or (filled_levels rows cols elevation) x 0 ≡ 0
  filled-clear x e = filled-kept.clear x (le-ltb 0 (get_or g x 0) (omega arith))

  pub filled-small : (x : ℕ) → get_or (filled_levels rows cols elevation) x 0 < top
  filled-small x =
      elim (dec_lt 0 (get_or g x 0)) [
        | yes v ↦ (let r = every-run x v in omega (arith, still-least lv filled-kept filled-still r, level-fine (highest_of rows cols elevation r) (greatest-fine r)))
        | no f ↦ omega (arith, filled-clear x (omega arith))
      ]

  -- some run attains the level
  pub filled-reached : (x : ℕ) → 0 < get_or (levels_of elevation) x 0 → (r : Run rows cols elevation x) × (level_of (highest_of rows cols elevation r) ≡ get_or (filled_levels rows cols elevation) x 0)
  filled-reached x v = let s = filled-kept.stands x (active x v) (filled-small x) in (s.0, omega (arith, s.1, still-least lv filled-kept filled-still s.0))

  pub filled-above : (x : ℕ) → 0 < get_or (levels_of elevation) x 0 → get_or (levels_of elevation) x 0 ≤ get_or (filled_levels rows cols elevation) x 0
  filled-above x v = let r = filled-reached x v in omega (arith, r.1, greatest-ground r.0)

  -- valid on the ground is valid on the filled levels
  pub filled-valid : (x : ℕ) → valid_at (filled_levels rows cols elevation) x ≡ valid_at (levels_of elevation) x
  filled-valid x =
      elim (dec_lt 0 (get_or g x 0)) [
        | yes v ↦ lt-ltb 0 (get_or lv x 0) (omega (arith, filled-above x v)) ∙ sym (lt-ltb 0 (get_or g x 0) v)
        | no f ↦ le-ltb 0 (get_or lv x 0) (omega (arith, filled-clear x (omega arith))) ∙ sym (le-ltb 0 (get_or g x 0) (omega arith))
      ]

  pub filled-some : (x : ℕ) → 0 < get_or (filled_levels rows cols elevation) x 0 → 0 < get_or (levels_of elevation) x 0
  filled-some x v = elim (dec_lt 0 (get_or g x 0)) [ yes h ↦ h | no f ↦ absurd (omega (arith, filled-clear x (omega arith))) ]

  -- ---- the filled heights

  pub filled_at : (x : ℕ) → get_or (filled_of rows cols elevation) x no_data ≡ height_of (get_or (filled_levels rows cols elevation) x 0)
  unfolding filled_of height_of
  filled_at x = get_or-map height_of lv x 0

  pub level-filled : (x : ℕ) → level_of (get_or (filled_of rows cols elevation) x no_data) ≡ get_or (filled_levels rows cols elevation) x 0
  level-filled x = ap level_of (filled_at x) ∙ level-height (get_or lv x 0)
