-- RULES 12.3: the report of one list of maps after another is the two reports joined. Assumes nothing.
use mathlib.Core.Path.{◌≡◌, refl, sym, ap, ap₂, subst, ◌∙◌}
use mathlib.Core.List.{List, [], ◌∷◌, ◌++◌, map, map-append}
use mathlib.Core.Bool.{Bool, cond}
use mathlib.Core.Logic.{◌⊎◌, inl, inr, ⊎_elim}
use Prim.Native.Nat.{ℕ, ◌+◌, ◌-◌, ◌≤◌, ◌<◌}
use native.Mathlib.Omega.{arith}
use native.Mathlib.Decide.{dec_lt}
use lib.ListN.{length, get_or, length-map, length-append, get_or-append}
use lib.Seq.{get_or-append-add}
use lib.Dec.{ltb}
use Rattle.std.specs.Prelude.{Option, None, Some}
use borrow.Author.Tests.{ltb-true, ltb-false}
use Rattle.laws.specs.Lists.{total}
use Rattle.laws.proofs.Tests.{two}
use Rattle.report.specs.Maps.{Map, valid_at, channel_in, is_zero, is_long, is_between, is_from, factor_is}
use Rattle.report.specs.Reports.{over, cells_with, sum_of, greatest_of, report_of}
use Rattle.report.specs.Joins.{counted_on, kept_of, joined}
use Rattle.report.specs.declared.Greatest.{Greatest}
use Rattle.report.specs.declared.Report.{Report}
use Rattle.report.proofs.Leaders.{rank_in, rank_at, Leader, Leads, rank-inside, greatest-leads, greatest-is-led}

-- ---- totals

pub over-append : (l k : List Map) (f : Map → ℕ) → over (l ++ k) f ≡ over l f + over k f
unfolding over total
over-append [] k f = omega arith
over-append (m ∷ l) k f = omega (arith, over-append l k f)

pub over-one : (m : Map) (f : Map → ℕ) → over (m ∷ []) f ≡ f m
unfolding over total
over-one m f = omega arith

-- ---- the greatest

module _ (l k : List Map) where
  rank_left : (i x : ℕ) → i < length l → rank_at (l ++ k) i x ≡ rank_at l i x
  unfolding rank_at
  rank_left i x h =
      ap (λ (r : List ℕ). get_or r i 0) (map-append (rank_in x) l k)
      ∙ get_or-append (map (rank_in x) l) (map (rank_in x) k) 0 i (omega (arith, length-map l (rank_in x)))

  rank_right : (i x : ℕ) → rank_at (l ++ k) (length l + i) x ≡ rank_at k i x
  unfolding rank_at
  rank_right i x =
      ap₂ (λ (r : List ℕ) (n : ℕ). get_or r (n + i) 0) (map-append (rank_in x) l k) (sym (length-map l (rank_in x)))
      ∙ get_or-append-add (map (rank_in x) l) (map (rank_in x) k) i 0

  -- a rank of the one list after the other is one of the first, or of the second
  rank-either : (i x : ℕ) → ((i < length l) × (rank_at (l ++ k) i x ≡ rank_at l i x)) ⊎ ((length l ≤ i) × (rank_at (l ++ k) i x ≡ rank_at k (i - length l) x))
  rank-either i x =
      elim (dec_lt i (length l)) [
        | yes h ↦ inl (h, rank_left i x h)
        | no d ↦ (let e : i ≡ length l + (i - length l) = omega arith in inr (omega arith, ap (λ (n : ℕ). rank_at (l ++ k) n x) e ∙ rank_right (i - length l) x))
      ]

  -- the first's leader stays if the second has none higher
  keeps : {w j y : ℕ} → Leader l w j y → ((i x : ℕ) → rank_at k i x ≤ w + 1) → j < length l → Leader (l ++ k) w j y
  keeps {w} {j} {y} a low h =
      record {
        has = rank_left j y h ∙ a.has;
        most = (λ i x. ⊎_elim (λ p. omega (arith, p.1, a.most i x)) (λ p. omega (arith, p.1, low (i - length l) x)) (rank-either i x));
        first = (λ i x e. ⊎_elim (λ p. a.first i x (sym p.1 ∙ e)) (λ p. inl (omega (arith, p.0))) (rank-either i x));
      }

  -- the second's is the leader if all of the first are lower
  takes : {v i x : ℕ} → Leader k v i x → ((j y : ℕ) → rank_at l j y < v + 1) → Leader (l ++ k) v (length l + i) x
  takes {v} {i} {x} b low =
      record {
        has = rank_right i x ∙ b.has;
        most = (λ j y. ⊎_elim (λ p. omega (arith, p.1, low j y)) (λ p. omega (arith, p.1, b.most (j - length l) y)) (rank-either j y));
        first = (λ j y e. ⊎_elim (λ p. absurd (omega (arith, p.1, low j y)))
            (λ p. ⊎_elim (λ q. inl (omega (arith, p.0, q))) (λ q. inr (omega (arith, p.0, q.0), q.1)) (b.first (j - length l) y (sym p.1 ∙ e)))
            (rank-either j y));
      }

  kept-leads : (a b : Option Greatest) → Leads l a → Leads k b → Leads (l ++ k) (kept_of (length l) a b)
  unfolding kept_of
  kept-leads None None p q = λ i x. ⊎_elim (λ r. r.1 ∙ p i x) (λ r. r.1 ∙ q (i - length l) x) (rank-either i x)
  kept-leads (Some g) None p q = keeps p (λ i x. omega (arith, q i x)) (rank-inside l g.map g.cell (omega (arith, p.has)))
  kept-leads None (Some h) p q = takes q (λ j y. omega (arith, p j y))
  kept-leads (Some g) (Some h) p q =
      ⊎_elim
      (λ t. subst (λ (b : Bool). Leads (l ++ k) (cond b (Some (counted_on (length l) h)) (Some g))) (sym t)
      (takes q (λ i x. omega (arith, p.most i x, ltb-true g.factor h.factor t))))
      (λ t. subst (λ (b : Bool). Leads (l ++ k) (cond b (Some (counted_on (length l) h)) (Some g))) (sym t)
      (keeps p (λ i x. omega (arith, q.most i x, ltb-false g.factor h.factor t)) (rank-inside l g.map g.cell (omega (arith, p.has)))))
      (two (ltb g.factor h.factor))

  pub greatest-append : greatest_of (l ++ k) ≡ kept_of (length l) (greatest_of l) (greatest_of k)
  greatest-append =
      let a = greatest_of l in
      let b = greatest_of k in
      sym (greatest-is-led (l ++ k) (kept_of (length l) a b) (kept-leads a b (greatest-leads l) (greatest-leads k)))

-- ---- the report

-- reports that are the same number by number
abbrev pub sheet : ℕ → ℕ → ℕ → ℕ → ℕ → ℕ → ℕ → ℕ → ℕ → ℕ → Option Greatest → Report
sheet maps valid channel zeros long sum under1 from1 from5 from10 greatest =
    record {
      maps = maps;
      valid = valid;
      channel = channel;
      zero = zeros;
      long = long;
      sum = sum;
      under1 = under1;
      from1 = from1;
      from5 = from5;
      from10 = from10;
      greatest = greatest;
    }

pub report-same : {a b c d e f g h i j a' b' c' d' e' f' g' h' i' j' : ℕ} {k k' : Option Greatest} →
    a ≡ a' → b ≡ b' → c ≡ c' → d ≡ d' → e ≡ e' → f ≡ f' → g ≡ g' → h ≡ h' → i ≡ i' → j ≡ j' → k ≡ k' →
    sheet a b c d e f g h i j k ≡ sheet a' b' c' d' e' f' g' h' i' j' k'
report-same q r s t u v w x y z o = cc

-- the report of one list after another
pub report-append : (l k : List Map) → report_of (l ++ k) ≡ joined (report_of l) (report_of k)
unfolding report_of joined
report-append l k =
    report-same (length-append l k) (over-append l k (cells_with valid_at)) (over-append l k (cells_with channel_in))
    (over-append l k (cells_with (factor_is is_zero))) (over-append l k (cells_with (factor_is is_long))) (over-append l k sum_of)
    (over-append l k (cells_with (factor_is (is_between 0 100000)))) (over-append l k (cells_with (factor_is (is_between 100000 500000))))
    (over-append l k (cells_with (factor_is (is_between 500000 1000000)))) (over-append l k (cells_with (factor_is (is_from 1000000)))) (greatest-append l k)

-- the report of no maps
pub report-empty : report_of [] ≡ sheet 0 0 0 0 0 0 0 0 0 0 None
unfolding report_of
report-empty = refl
