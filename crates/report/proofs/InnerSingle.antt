-- Laws of the report of one map, as the code works it out. Assumes nothing.
use mathlib.Core.Path.{◌≡◌, refl, sym, ap, ◌∙◌}
use mathlib.Core.List.{List, [], ◌∷◌}
use mathlib.Core.Bool.{Bool, true, false, cond}
use mathlib.Core.Logic.{inr}
use Prim.Native.Nat.{ℕ, ◌+◌, ◌-◌, ◌*◌, ◌≤◌, ◌<◌}
use native.Mathlib.Omega.{arith}
use native.Mathlib.Decide.{dec_lt}
use lib.ListN.{length, drop, get_or}
use lib.Dec.{eqb}
use Rattle.std.specs.Prelude.{Option, None, Some}
use Rattle.std.specs.List.{position, position_or_len}
use Rattle.std.proofs.lemmas.List.Sums.{fails_before_first}
use Rattle.std.proofs.lemmas.List.{get_or-drop, length-drop}
use Rattle.std.proofs.lemmas.List.Quantifiers.{position-Some}
use borrow.Author.Tests.{lt-ltb, le-ltb, eq-eqb, eqb-true, eqb-false}
use Rattle.laws.specs.Sums.{sum_to, when}
use Rattle.laws.proofs.Sums.{when-yes, when-no}
use Rattle.settings.specs.declared.Settings.{Settings}
use Rattle.settings.specs.declared.Rules.{Rules}
use Rattle.settings.specs.Settings.{rules_of}
use Rattle.factor.specs.Farms.{one, two, farm_at, of_farm, rules_in}
use Rattle.factor.specs.Cell.{too_long}
use Rattle.factor.specs.Channel.{is_channel, largest_of, channel_at}
use Rattle.report.specs.Maps.{Map, map_of, cells_of, valid_at, channel_in, is_factor, is_zero, is_long, is_between, is_from, factor_at, factor_is}
use Rattle.report.specs.Reports.{found, over, cells_with, sum_of, rank_of, greatest_of, report_of}
use Rattle.report.specs.InnerCells.{count_to, cells_to, factors_to, below, is_wet, Numbers32, Leading, Tallied}
use Rattle.report.specs.declared.Greatest.{Greatest}
use Rattle.report.specs.declared.lead.Lead.{Lead}
use Rattle.report.specs.declared.tally.Tally.{Tally}
use Rattle.report.proofs.InnerCells.{count-ext, count-split, under-is, between_split, from-split, zero_is}
use Rattle.report.proofs.InnerLead.{highest-ge}
use Rattle.report.proofs.Leaders.{rank_in, rank_at, rank-inside, rank-value, greatest-is-led}
use Rattle.report.proofs.Lists.{over-one, sheet, report-same}

-- ---- the greatest

-- no place of a list passes a test that finds none
position-None : (p : ℕ → Bool) (l : List ℕ) → position p l ≡ None → (x : ℕ) → x < length l → p (get_or l x 0) ≡ true → ⊥
position-None p l e x h t =
    let n = position_or_len p l in
    elim (dec_lt n (length l)) [
      | yes k ↦ absurd (let q : Some n ≡ None = sym (ap (λ (b : Bool). cond b (Some n) None) (lt-ltb n (length l) k)) ∙ e in cc)
      | no d ↦ absurd (let f : false ≡ true = sym (fails_before_first p l x 0 (omega arith)) ∙ t in cc)
    ]

module _ (m : Map) (l : List ℕ) (n : ℕ) (same : m.factors ≡ l) (cells : cells_of m ≡ n) where
  -- the map's ranks are the list's
  rank_is : (x : ℕ) → x < n → rank_at (m ∷ []) 0 x ≡ rank_of (get_or l x 0)
  unfolding rank_at rank_in
  rank_is x h =
      when-yes (rank_of (factor_at m x)) (lt-ltb x (cells_of m) (omega arith)) ∙ ap (λ (k : List ℕ). rank_of (get_or k x 0)) same

  rank-in : (i x : ℕ) → 0 < rank_at (m ∷ []) i x → (i ≡ 0) × (x < n)
  unfolding rank_at rank_in
  rank-in i x h =
      let z : i ≡ 0 = omega (arith, rank-inside (m ∷ []) i x h) in (
        z,
        elim (dec_lt x n) [
          | yes k ↦ k
          | no d ↦ absurd (omega (arith, ap (λ (k : ℕ). rank_at (m ∷ []) k x) z, when-no (rank_of (factor_at m x)) (le-ltb x (cells_of m) (omega arith))))
        ],
      )

  module _ (t : Lead) (led : Leading l n t) where
    rank-low : (i x : ℕ) → rank_at (m ∷ []) i x ≤ t.rank
    rank-low i x =
        elim (dec_lt 0 (rank_at (m ∷ []) i x)) [
          | yes h ↦ (let w = rank-in i x h in
              omega (arith, ap (λ (k : ℕ). rank_at (m ∷ []) k x) w.0, rank_is x w.1, highest-ge l n x w.1, led.highest))
          | no d ↦ omega arith
        ]

    -- no cell leads
    pub lead-nothing : t.rank ≡ 0 → None ≡ greatest_of (m ∷ [])
    lead-nothing e = greatest-is-led (m ∷ []) None (λ i x. omega (arith, rank-low i x))

    module _ (v : ℕ) (rank : t.rank ≡ v + 1) where
      abbrev some : (x : ℕ) × (t.from ≤ x) × (x < n) × (rank_of (get_or l x 0) ≡ t.rank)
      some = led.within (omega arith)

      value : get_or l some.0 0 ≡ v
      value = rank-value (get_or l some.0 0) v (some.3 ∙ rank)

      abbrev rest : List ℕ
      rest = drop t.from l

      here : (x : ℕ) → t.from ≤ x → get_or rest (x - t.from) 0 ≡ get_or l x 0
      here x h = get_or-drop t.from l (x - t.from) 0 ∙ ap (λ (k : ℕ). get_or l k 0) (omega arith)

      -- the search from its place on finds one
      pub lead-stands : length l ≡ n → position (λ w. eqb w v) rest ≡ None → ⊥
      lead-stands e none =
          position-None (λ w. eqb w v) rest none (some.0 - t.from) (omega (arith, length-drop t.from l, some.1, some.2))
          (eq-eqb _ _ (here some.0 some.1 ∙ value))

      -- and that leads
      module _ (a : ℕ) (found_at : position (λ w. eqb w v) rest ≡ Some a) where
        abbrev facts : (a < length rest) × (eqb (get_or rest a 0) v ≡ true) × ((k : ℕ) → k < a → eqb (get_or rest k 0) v ≡ false)
        facts = position-Some (λ w. eqb w v) rest a 0 found_at

        stands : get_or l (t.from + a) 0 ≡ v
        stands = sym (get_or-drop t.from l a 0) ∙ eqb-true (get_or rest a 0) v facts.1

        cell-rank : rank_of (get_or l (t.from + a) 0) ≡ v + 1
        cell-rank = ap rank_of (stands ∙ sym value) ∙ some.3 ∙ rank

        none_before : (y : ℕ) → rank_of (get_or l y 0) ≡ v + 1 → t.from + a ≤ y
        none_before y e =
            elim (dec_lt y (t.from + a)) [
              | yes k ↦ elim (dec_lt y t.from) [
                | yes b ↦ absurd (omega (arith, led.before y b))
                | no d ↦ absurd (eqb-false _ _ (facts.2 (y - t.from) (omega arith)) (here y (omega arith) ∙ rank-value (get_or l y 0) v e))
              ]
              | no d ↦ omega arith
            ]

        pub lead-found : found v 0 (t.from + a) ≡ greatest_of (m ∷ [])
        lead-found =
            greatest-is-led (m ∷ []) (found v 0 (t.from + a)) (record {
              has = rank_is (t.from + a) (omega (arith, none_before some.0 (some.3 ∙ rank), some.2)) ∙ cell-rank;
              most = (λ i x. omega (arith, rank-low i x));
              first = (λ i x e. let w = rank-in i x (omega arith) in
                  inr (sym w.0, none_before x (sym (rank_is x w.1) ∙ ap (λ (k : ℕ). rank_at (m ∷ []) k x) (sym w.0) ∙ e)));
            })

-- ---- the classes as differences

module _ (l : List ℕ) (n : ℕ) (t : Tally) (tallied : Tallied l n t) where
  pub class-1 : t.under1 + count_to (is_between 100000 500000) l n ≡ t.under5
  class-1 =
      omega (
        arith,
        tallied.under1,
        tallied.under5,
        count-split (below 100000) (is_between 100000 500000) (below 500000) l n (λ x. between_split 100000 500000 (get_or l x 0) (omega arith) (omega arith)),
      )

  pub class-5 : t.under5 + count_to (is_between 500000 1000000) l n ≡ t.under10
  class-5 =
      omega (
        arith,
        tallied.under5,
        tallied.under10,
        count-split (below 500000) (is_between 500000 1000000) (below 1000000) l n (λ x. between_split 500000 1000000 (get_or l x 0) (omega arith) (omega arith)),
      )

  pub class-10 : Numbers32 l → t.under10 + count_to (is_from 1000000) l n ≡ t.known
  class-10 small =
      omega (
        arith,
        tallied.under10,
        tallied.known,
        count-split (below 1000000) (is_from 1000000) (below too_long) l n (λ x. from-split 1000000 (get_or l x 0) (omega arith) (small x)),
      )

-- ---- the report

module _ (m : Map) (n : ℕ) (cells : cells_of m ≡ n) where
  counted : (p : ℕ → Bool) → count_to p m.factors n ≡ over (m ∷ []) (cells_with (factor_is p))
  unfolding cells_with count_to
  counted p = sym (over-one m (cells_with (factor_is p)) ∙ ap (λ (k : ℕ). sum_to k (λ x. when (p (factor_at m x)) 1)) cells)

  pub valid-is : count_to is_wet m.count n ≡ over (m ∷ []) (cells_with valid_at)
  unfolding cells_with count_to valid_at
  valid-is = sym (over-one m (cells_with valid_at) ∙ ap (λ (k : ℕ). sum_to k (λ x. when (valid_at m x) 1)) cells)

  sum_is : factors_to m.factors n ≡ over (m ∷ []) sum_of
  unfolding sum_of factors_to
  sum_is = sym (over-one m sum_of ∙ ap (λ (k : ℕ). sum_to k (λ x. when (is_factor (factor_at m x)) (factor_at m x))) cells)

  -- what the code puts together
  pub single-is : (t : Tally) {valid channel long sum : ℕ} {greatest : Option Greatest} →
      Numbers32 m.factors → Tallied m.factors n t →
      valid ≡ over (m ∷ []) (cells_with valid_at) → channel ≡ over (m ∷ []) (cells_with channel_in) →
      long ≡ count_to is_long m.factors n → sum ≡ factors_to m.factors n → greatest ≡ greatest_of (m ∷ []) →
      sheet 1 valid channel t.zero long sum t.under1 (t.under5 - t.under1) (t.under10 - t.under5) (t.known - t.under10) greatest
      ≡ report_of (m ∷ [])
  unfolding report_of
  single-is t small tallied va ch lo su gr =
      let l = m.factors in
      report-same refl va ch
      (tallied.zero ∙ count-ext (below 1) is_zero l n (λ x h. zero_is (get_or l x 0)) ∙ counted is_zero) (lo ∙ counted is_long) (su ∙ sum_is)
      (tallied.under1 ∙ count-ext (below 100000) (is_between 0 100000) l n (λ x h. sym (under-is 100000 (get_or l x 0) (omega arith)))
      ∙ counted (is_between 0 100000))
      (omega (arith, class-1 l n t tallied, counted (is_between 100000 500000)))
      (omega (arith, class-5 l n t tallied, counted (is_between 500000 1000000)))
      (omega (arith, class-10 l n t tallied small, counted (is_from 1000000))) gr

-- ---- channel cells

module _ (rows columns : ℕ) (count factors : List ℕ) (n : ℕ) (cells : rows * columns ≡ n) where
  pub channels-one : (s : Settings) (rules : Rules) → rules ≡ rules_of s →
      count_to (is_channel rules.threshold (largest_of n count)) count n ≡ over (map_of rows columns (one s) count factors ∷ []) (cells_with channel_in)
  unfolding cells_with count_to channel_in channel_at rules_in
  channels-one s rules e = rw (e, ← cells) (sym (over-one (map_of rows columns (one s) count factors) (cells_with channel_in)))

  pub channels-two : (s t : Settings) (marks : List ℕ) (f g : Rules) → f ≡ rules_of s → g ≡ rules_of t →
      cells_to (λ x. is_channel (of_farm f g (farm_at marks x)).threshold (largest_of n count) (get_or count x 0)) n
      ≡ over (map_of rows columns (two s t marks) count factors ∷ []) (cells_with channel_in)
  unfolding cells_with cells_to channel_in channel_at rules_in
  channels-two s t marks f g e h = rw (e, h, ← cells) (sym (over-one (map_of rows columns (two s t marks) count factors) (cells_with channel_in)))
