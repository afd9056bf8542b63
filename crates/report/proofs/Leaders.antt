-- RULES 12.2: the greatest LS of a list of maps is some cell's, no cell has more, and no earlier one has as much; and no other greatest is so.
-- Assumes nothing.
use mathlib.Core.Path.{◌≡◌, refl, sym, ap, ap₂, subst, ◌∙◌}
use mathlib.Core.List.{List, [], ◌∷◌, map}
use mathlib.Core.Bool.{Bool, true, false, ◌&&◌}
use mathlib.Core.Logic.{◌⊎◌, inl, inr, ⊎_elim}
use Prim.Native.Nat.{ℕ, zero, suc, ◌+◌, ◌≤◌, ◌<◌}
use native.Mathlib.Nat.{le_of_suc-le-suc, not-suc-le-zero}
use native.Mathlib.Omega.{arith}
use native.Mathlib.Decide.{dec_lt}
use lib.ListN.{length, get_or, length-map, get_or-eq_default}
use lib.Dec.{ltb, eqb}
use Rattle.std.specs.Prelude.{Option, None, Some}
use borrow.Author.Tests.{ltb-true, lt-ltb, le-ltb, eqb-true, eq-eqb}
use Rattle.laws.specs.First.{first_of, some_of}
use Rattle.laws.specs.Sums.{when}
use Rattle.laws.proofs.First.{first_holds, first-le, some-yes}
use Rattle.laws.proofs.Sums.{greatest-ge, greatest-is, when-yes, when-no}
use Rattle.laws.proofs.Tests.{two, and_both}
use Rattle.report.specs.Maps.{Map, cells_of, is_factor, factor_at}
use Rattle.report.specs.Reports.{found, rank_of, highest_in, highest_of, has_factor, first_map, first_cell, found_with, greatest_of}
use Rattle.report.specs.declared.Greatest.{Greatest}

-- one more than the LS of the cell x of a map, and of the map i of a list; 0 where there is none
unfoldable pub rank_in : ℕ → Map → ℕ
rank_in x m = when (ltb x (cells_of m)) (rank_of (factor_at m x))

unfoldable pub rank_at : List Map → ℕ → ℕ → ℕ
rank_at maps i x = get_or (map (rank_in x) maps) i 0

-- the cell x of the map i has the LS v, no cell has more, and each other that has v stands in a later map, or later in the same
pub record Leader (maps : List Map) (v i x : ℕ) : Type 0 where
  pub has : rank_at maps i x ≡ v + 1
  pub most : (j y : ℕ) → rank_at maps j y ≤ v + 1
  pub first : (j y : ℕ) → rank_at maps j y ≡ v + 1 → (i < j) ⊎ ((i ≡ j) × (x ≤ y))

-- what a greatest says; none says that no cell has an LS
abbrev pub Leads : List Map → Option Greatest → Type 0
Leads maps None = (i x : ℕ) → rank_at maps i x ≡ 0
Leads maps (Some g) = Leader maps g.factor g.map g.cell

-- ---- only one greatest leads

found-same : {v i x w j y : ℕ} → v ≡ w → i ≡ j → x ≡ y → found v i x ≡ found w j y
found-same p q r = cc

leaders-same : {maps : List Map} {v i x w j y : ℕ} → Leader maps v i x → Leader maps w j y → found v i x ≡ found w j y
leaders-same {maps} {v} {i} {x} {w} {j} {y} a b =
    let e : v ≡ w = omega (arith, a.has, b.has, a.most j y, b.most i x) in
    ⊎_elim (λ l. ⊎_elim (λ k. absurd (omega arith)) (λ k. absurd (omega arith)) (b.first i x (omega (arith, a.has))))
    (λ p. ⊎_elim (λ k. absurd (omega (arith, p.0))) (λ q. found-same e p.0 (omega (arith, p.1, q.1))) (b.first i x (omega (arith, a.has))))
    (a.first j y (omega (arith, b.has)))

pub leads-unique : (maps : List Map) (a b : Option Greatest) → Leads maps a → Leads maps b → a ≡ b
leads-unique maps None None p q = refl
leads-unique maps None (Some h) p q = absurd (omega (arith, p h.map h.cell, q.has))
leads-unique maps (Some g) None p q = absurd (omega (arith, q g.map g.cell, p.has))
leads-unique maps (Some g) (Some h) p q = leaders-same p q

-- ---- the map i of a list

record MapAt (maps : List Map) (i : ℕ) : Type 0 where
  at : Map
  numbers : (f : Map → ℕ) → get_or (map f maps) i 0 ≡ f at
  tests : (p : Map → Bool) → get_or (map p maps) i false ≡ p at

map_at : (maps : List Map) (i : ℕ) → i < length maps → MapAt maps i
map_at [] i h = absurd (not-suc-le-zero h)
map_at (m ∷ maps) zero h = record { at = m; numbers = (λ f. refl); tests = (λ p. refl) }
map_at (m ∷ maps) (suc i) h =
    let w = map_at maps i (le_of_suc-le-suc h) in
    record { at = w.at; numbers = w.numbers; tests = w.tests }

-- past the list no cell has a rank
rank-past : (maps : List Map) (i x : ℕ) → length maps ≤ i → rank_at maps i x ≡ 0
unfolding rank_at
rank-past maps i x h = get_or-eq_default (map (rank_in x) maps) 0 {n = i} (omega (arith, length-map maps (rank_in x)))

pub rank-inside : (maps : List Map) (i x : ℕ) → 0 < rank_at maps i x → i < length maps
rank-inside maps i x h = elim (dec_lt i (length maps)) [ yes k ↦ k | no d ↦ absurd (omega (arith, rank-past maps i x (omega arith))) ]

-- ---- a cell's rank and its LS

has-rank : (v : ℕ) (m : Map) (x : ℕ) → x < cells_of m → has_factor v m x ≡ true → rank_in x m ≡ v + 1
unfolding has_factor rank_in rank_of
has-rank v m x h e =
    let w = and_both (is_factor (factor_at m x)) (eqb (factor_at m x) v) e in
    when-yes (rank_of (factor_at m x)) (lt-ltb x (cells_of m) h) ∙ when-yes (factor_at m x + 1) w.0 ∙ ap (λ (n : ℕ). n + 1) (eqb-true (factor_at m x) v w.1)

rank-has : (v : ℕ) (m : Map) (x : ℕ) → rank_in x m ≡ v + 1 → (x < cells_of m) × (has_factor v m x ≡ true)
unfolding has_factor rank_in rank_of
rank-has v m x e =
    let w = factor_at m x in
    ⊎_elim (λ t. let r = when-yes (rank_of w) t in
    ⊎_elim (λ f. (ltb-true x (cells_of m) t, ap₂ ◌&&◌ f (eq-eqb w v (omega (arith, r, when-yes (w + 1) f)))))
    (λ f. absurd (omega (arith, r, when-no (w + 1) f))) (two (is_factor w)))
    (λ t. absurd (omega (arith, when-no (rank_of w) t))) (two (ltb x (cells_of m)))

-- the LS of a rank
pub rank-value : (w v : ℕ) → rank_of w ≡ v + 1 → w ≡ v
unfolding rank_of
rank-value w v e =
    ⊎_elim (λ f. omega (arith, when-yes (w + 1) f)) (λ f. absurd (omega (arith, when-no (w + 1) f))) (two (is_factor w))

-- ---- no rank is above the highest, and some cell has the highest

rank-under : (m : Map) (x : ℕ) → rank_in x m ≤ highest_in m
unfolding rank_in highest_in
rank-under m x =
    elim (dec_lt x (cells_of m)) [
      | yes h ↦ omega (arith, when-yes (rank_of (factor_at m x)) (lt-ltb x (cells_of m) h), greatest-ge (cells_of m) (λ y. rank_of (factor_at m y)) x h)
      | no d ↦ omega (arith, when-no (rank_of (factor_at m x)) (le-ltb x (cells_of m) (omega arith)))
    ]

rank-reached : (m : Map) → 0 < highest_in m → (x : ℕ) × (rank_in x m ≡ highest_in m)
unfolding rank_in highest_in
rank-reached m h =
    let w = greatest-is (cells_of m) (λ y. rank_of (factor_at m y)) h in
    (w.0, when-yes (rank_of (factor_at m w.0)) (lt-ltb w.0 (cells_of m) w.1) ∙ w.2)

module _ (maps : List Map) where
  abbrev highest_at : ℕ → ℕ
  highest_at i = get_or (map highest_in maps) i 0

  ranks-under : (i x : ℕ) → rank_at maps i x ≤ highest_of maps
  unfolding rank_at highest_of
  ranks-under i x =
      elim (dec_lt i (length maps)) [
        | yes h ↦ (let w = map_at maps i h in
            omega (arith, w.numbers (rank_in x), w.numbers highest_in, rank-under w.at x, greatest-ge (length maps) highest_at i h))
        | no d ↦ omega (arith, rank-past maps i x (omega arith))
      ]

  ranks-reached : 0 < highest_of maps → (i : ℕ) × (x : ℕ) × (rank_at maps i x ≡ highest_of maps)
  unfolding rank_at highest_of
  ranks-reached h =
      let g = greatest-is (length maps) highest_at h in
      let w = map_at maps g.0 g.1 in
      let c = rank-reached w.at (omega (arith, g.2, w.numbers highest_in)) in
      (g.0, c.0, w.numbers (rank_in c.0) ∙ c.1 ∙ sym (w.numbers highest_in) ∙ g.2)

  -- ---- the greatest of a list leads

  module _ (v : ℕ) (e : highest_of maps ≡ suc v) where
    abbrev has_cell : Map → Bool
    has_cell m = some_of (has_factor v m) (cells_of m)

    -- a cell with the rank makes its map pass
    passes : (j y : ℕ) → rank_at maps j y ≡ v + 1 → (j < length maps) × (get_or (map has_cell maps) j false ≡ true)
    unfolding rank_at
    passes j y q =
        let h = rank-inside maps j y (omega arith) in
        let w = map_at maps j h in
        let c = rank-has v w.at y (sym (w.numbers (rank_in y)) ∙ q) in
        (h, w.tests has_cell ∙ some-yes (has_factor v w.at) (cells_of w.at) y c.0 c.1)

    map-in : first_map v maps < length maps
    unfolding first_map
    map-in =
        let r = ranks-reached (omega arith) in
        let p = passes r.0 r.1 (omega (arith, r.2)) in
        omega (arith, first-le (λ i. get_or (map has_cell maps) i false) (length maps) r.0 p.0 p.1, p.0)

    abbrev first : MapAt maps (first_map v maps)
    first = map_at maps (first_map v maps) map-in

    found-has : has_cell first.at ≡ true
    unfolding first_map
    found-has = sym (first.tests has_cell) ∙ first_holds (λ i. get_or (map has_cell maps) i false) (length maps) map-in

    cell_in : first_cell v first.at < cells_of first.at
    unfolding first_cell some_of
    cell_in = ltb-true (first_of (has_factor v first.at) (cells_of first.at)) (cells_of first.at) found-has

    cell-has : has_factor v first.at (first_cell v first.at) ≡ true
    unfolding first_cell
    cell-has = first_holds (has_factor v first.at) (cells_of first.at) cell_in

    -- the first cell of the first map is no later than any that has the rank
    earliest : (j y : ℕ) → rank_at maps j y ≡ v + 1 → (first_map v maps < j) ⊎ ((first_map v maps ≡ j) × (first_cell v first.at ≤ y))
    unfolding first_map first_cell rank_at
    earliest j y q =
        let p = passes j y q in
        let le = first-le (λ i. get_or (map has_cell maps) i false) (length maps) j p.0 p.1 in
        elim (dec_lt (first_map v maps) j) [
          | yes h ↦ inl h
          | no d ↦ (let s : first_map v maps ≡ j = omega arith in
              let c = rank-has v first.at y (sym (first.numbers (rank_in y)) ∙ ap (λ (i : ℕ). rank_at maps i y) s ∙ q) in
              inr (s, first-le (has_factor v first.at) (cells_of first.at) y c.0 c.1))
        ]

    leader-is : Leader maps v (first_map v maps) (first_cell v first.at)
    unfolding rank_at
    leader-is =
        record {
          has = first.numbers (rank_in (first_cell v first.at)) ∙ has-rank v first.at (first_cell v first.at) cell_in cell-has;
          most = (λ j y. omega (arith, ranks-under j y));
          first = earliest;
        }

    found-leads : Leads maps (found_with maps (suc v))
    unfolding found_with
    found-leads = subst (λ (x : ℕ). Leader maps v (first_map v maps) x) (sym (first.numbers (first_cell v))) leader-is

  leads-at : (n : ℕ) → highest_of maps ≡ n → Leads maps (found_with maps n)
  unfolding found_with
  leads-at zero e = λ i x. omega (arith, ranks-under i x)
  leads-at (suc v) e = found-leads v e

  pub greatest-leads : Leads maps (greatest_of maps)
  unfolding greatest_of
  greatest-leads = leads-at (highest_of maps) refl

  -- so whatever leads is the greatest
  pub greatest-is-led : (g : Option Greatest) → Leads maps g → g ≡ greatest_of maps
  greatest-is-led g p = leads-unique maps g (greatest_of maps) p greatest-leads
