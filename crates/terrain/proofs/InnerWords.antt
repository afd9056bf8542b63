-- Laws of the flood's words: what stores do to the levels that they stand for. Assumes nothing.
use Rattle.std.proofs.Common.{◌≡◌, ℕ, zero, suc, ◌*◌, ◌<◌, ◌≤◌, min, List, [], ◌∷◌, map, length, get_or, set, ℤ, sym, refl, ap, ◌∙◌, subst, arith, length-set, get_or-set_other, get_or-set_same, ext_get_or, ltb-true}
use native.Mathlib.Decide.{dec_lt, ℕ_discrete}
use lib.ListN.{length-map, get_or-map}
use lib.Seq.{map-set_same}
use Rattle.laws.specs.Settle.{start_of}
use Rattle.laws.proofs.Lists.{in_list}
use Rattle.laws.proofs.Settle.{kept-active, store_kept, start-kept}
use Rattle.terrain.specs.Cells.{neighbour, levels_of}
use Rattle.terrain.specs.InnerCells.{Ready}
use Rattle.terrain.specs.Filled.{top, lowest_of, filling, filled_levels}
use Rattle.terrain.specs.InnerFlood.{Stands, FillKept, Steady, done_of, Above, Flooded}
use Rattle.terrain.proofs.Neighbours.{level-top, levels-long}
use Rattle.terrain.proofs.Filling.{lowest-is, lowest-top, stands-beside, filling-rule, filled_is}

pub done_at : (l : List ℕ) (x : ℕ) → get_or (done_of l) x 0 ≡ min (get_or l x 0) top
unfolding done_of
done_at l x = get_or-map (λ w. min w top) l x 0

pub done-long : (l : List ℕ) → length (done_of l) ≡ length l
unfolding done_of
done-long l = length-map l (λ w. min w top)

-- a store that does not change what the word stands for
pub done-same : (l : List ℕ) (x v : ℕ) → min v top ≡ min (get_or l x 0) top → done_of (set l x v) ≡ done_of l
unfolding done_of
done-same l x v e = map-set_same (λ w. min w top) l x v 0 e

map-set : (f : ℕ → ℕ) (l : List ℕ) (x v : ℕ) → map f (set l x v) ≡ set (map f l) x (f v)
map-set f [] x v = refl
map-set f (a ∷ l) zero v = refl
map-set f (a ∷ l) (suc x) v = ap (λ (m : List ℕ). f a ∷ m) (map-set f l x v)

pub done-set : (l : List ℕ) (x v : ℕ) → done_of (set l x v) ≡ set (done_of l) x (min v top)
unfolding done_of
done-set l x v = map-set (λ w. min w top) l x v

-- the lowest neighbour is that of the levels
pub lowest-done : (rows cols : ℕ) (l : List ℕ) (x k : ℕ) → lowest_of rows cols (done_of l) x k ≡ lowest_of rows cols l x k
unfolding lowest_of
lowest-done rows cols l x zero = refl
lowest-done rows cols l x (suc k) = omega (arith, lowest-done rows cols l x k, lowest-top rows cols l x k, done_at l (neighbour rows cols x k))

-- ---- from words to words

module _ {rows cols : ℕ} where
  pub flooded-none : {l : List ℕ} → Flooded rows cols l l
  flooded-none = record { long = refl; above = (λ g a. a); kept = (λ g r a k. k) }

  pub flooded-then : {l₀ l m : List ℕ} → Flooded rows cols l₀ l → Flooded rows cols l m → Flooded rows cols l₀ m
  flooded-then a b = record { long = b.long ∙ a.long; above = (λ g h. a.above g (b.above g h)); kept = (λ g r h k. b.kept g r h (a.kept g r (b.above g h) k)) }

  -- words that stand for the same levels
  pub flooded-same : {l m : List ℕ} → done_of m ≡ done_of l → Flooded rows cols l m
  flooded-same {l} {m} e =
      record {
        long = sym (done-long m) ∙ ap length e ∙ done-long l;
        above = (λ g. subst (Above g) e);
        kept = (λ g r h k. subst (FillKept rows cols g) (sym e) k);
      }

  -- a cell that waits is given a level that is not below its lowest neighbour
  pub flooded-done : (l : List ℕ) (x v : ℕ) → top ≤ get_or l x 0 → lowest_of rows cols l x 8 ≤ v → Flooded rows cols l (set l x v)
  flooded-done l x v w h = elim (dec_lt v top) [ yes lt ↦ stored lt | no f ↦ flooded-same (done-same l x v (omega arith)) ]
    where
      stored : v < top → Flooded rows cols l (set l x v)
      stored lt =
          record {
            long = length-set l x v;
            above = (λ g a. before g (subst (Above g) is a));
            kept = (λ g r a k. subst (FillKept rows cols g) (sym is) (lowered g r (subst (Above g) is a) k));
          }
        where
          is : done_of (set l x v) ≡ set (done_of l) x v
          is = let e : min v top ≡ v = omega arith in done-set l x v ∙ ap (set (done_of l) x) e

          high : get_or (done_of l) x 0 ≡ top
          high = omega (arith, done_at l x)

          here : get_or (set (done_of l) x v) x 0 ≡ v
          here = get_or-set_same (done_of l) x v 0 (in_list (done_of l) x (omega (arith, high)))

          before : (elevation : List ℤ) → Above elevation (set (done_of l) x v) → Above elevation (done_of l)
          before elevation a y q =
              elim (ℕ_discrete y x) [
                | yes e ↦ absurd (omega (arith, high, ap (λ (z : ℕ). get_or (done_of l) z 0) e))
                | no f ↦ (let o = get_or-set_other (done_of l) x y v 0 f in omega (arith, a y (omega arith)))
              ]

          lowered : (elevation : List ℤ) → Ready rows cols elevation → Above elevation (set (done_of l) x v) → FillKept rows cols elevation (done_of l) → FillKept rows cols elevation (set (done_of l) x v)
          lowered elevation ready a k =
              let low = lowest-done rows cols l x 8 in
              let i = lowest-is rows cols (done_of l) x 8 (omega arith) in
              let valid = ltb-true 0 (get_or (levels_of elevation) x 0) (kept-active (filling rows cols (levels_of elevation)) (Stands rows cols elevation) (done_of l) k x (omega (arith, high))) in
              store_kept (filling rows cols (levels_of elevation)) (Stands rows cols elevation) (done_of l) k x v (omega (arith, high))
              (stands-beside rows cols elevation ready (done_of l) k x i.0 v valid i.1 (omega (arith, i.2)) (omega (arith, i.2, here, a x (omega (arith, here)))))

-- the levels that the words stand for at the start can be lowered
pub start-done : {rows cols : ℕ} {elevation : List ℤ} → Ready rows cols elevation → (l : List ℕ) → done_of l ≡ start_of (filling rows cols (levels_of elevation)) → FillKept rows cols elevation (done_of l)
start-done {rows} {cols} {elevation} ready l e = subst (FillKept rows cols elevation) (sym e) (start-kept (filling rows cols (levels_of elevation)) (Stands rows cols elevation) (filling-rule rows cols elevation ready))

-- words of a flood in which no cell is at fault are the filled levels
pub flood-filled : {rows cols : ℕ} {elevation : List ℤ} → Ready rows cols elevation → (l₀ l : List ℕ) → done_of l₀ ≡ start_of (filling rows cols (levels_of elevation)) → Flooded rows cols l₀ l → ((x : ℕ) → x < rows * cols → Steady rows cols elevation l x) → l ≡ filled_levels rows cols elevation
flood-filled {rows} {cols} {elevation} ready l₀ l e f s =
    filled_is rows cols elevation ready l (subst (FillKept rows cols elevation) levels kept)
    (λ x a. (s x ((filling-rule rows cols elevation ready).within x a)).still)
  where
    above : Above elevation (done_of l)
    above y lt =
        elim (dec_lt 0 (get_or (levels_of elevation) y 0)) [
          | yes v ↦ omega (arith, done_at l y, (s y (omega (arith, in_list (levels_of elevation) y v, levels-long ready))).above)
          | no h ↦ omega arith
        ]

    kept : FillKept rows cols elevation (done_of l)
    kept = f.kept elevation ready above (start-done ready l₀ e)

    levels : done_of l ≡ l
    levels = ext_get_or 0 (done_of l) l (done-long l) (λ x h. omega (arith, done_at l x, (s x (omega (arith, kept.long))).still, lowest-top rows cols l x 8, level-top ready x))
