-- Laws of the lead: the highest rank so far, and a block in which the first cell that has it stands. Assumes nothing.
use mathlib.Core.Path.{◌≡◌, sym, ap, ◌∙◌}
use mathlib.Core.List.{List}
use Prim.Native.Nat.{ℕ, ◌+◌, ◌≤◌, ◌<◌, max}
use native.Mathlib.Omega.{arith}
use native.Mathlib.Decide.{dec_lt}
use lib.ListN.{length, get_or}
use lib.Dec.{ltb}
use borrow.Author.Tests.{lt-ltb, le-ltb}
use Rattle.laws.specs.Sums.{greatest_to, when}
use Rattle.laws.proofs.Sums.{sum-le, greatest-none, greatest-more, greatest-ext, greatest-ge, greatest-le, greatest-is}
use Rattle.factor.specs.Cell.{too_long}
use Rattle.report.specs.Reports.{rank_of}
use Rattle.report.specs.InnerCells.{count_to, highest_to, Numbers32, Block, Counted, Leading}
use Rattle.report.specs.declared.classes.Counts.{Counts}
use Rattle.report.specs.declared.lead.Lead.{Lead}
use Rattle.report.proofs.InnerCells.{rank-known, rank-none, rank-small, one-yes, one-no}
use Rattle.report.proofs.InnerSpans.{span_same, greatest-after}

-- ---- the highest rank

module _ (l : List ℕ) where
  pub highest-none : highest_to l 0 ≡ 0
  unfolding highest_to
  highest-none = greatest-none (λ x. rank_of (get_or l x 0))

  pub highest-more : (n : ℕ) → highest_to l (n + 1) ≡ max (highest_to l n) (rank_of (get_or l n 0))
  unfolding highest_to
  highest-more n = greatest-more n (λ x. rank_of (get_or l x 0))

  pub highest-ge : (n x : ℕ) → x < n → rank_of (get_or l x 0) ≤ highest_to l n
  unfolding highest_to
  highest-ge n x h = greatest-ge n (λ y. rank_of (get_or l y 0)) x h

  pub highest-le : (n b : ℕ) → ((x : ℕ) → x < n → rank_of (get_or l x 0) ≤ b) → highest_to l n ≤ b
  unfolding highest_to
  highest-le n b h = greatest-le n (λ y. rank_of (get_or l y 0)) b h

  pub highest-is : (n : ℕ) → 0 < highest_to l n → (x : ℕ) × (x < n) × (rank_of (get_or l x 0) ≡ highest_to l n)
  unfolding highest_to
  highest-is n h = greatest-is n (λ y. rank_of (get_or l y 0)) h

  pub highest-block : {block : List ℕ} {from : ℕ} → Block l from block →
      highest_to l (from + length block) ≡ max (highest_to l from) (highest_to block (length block))
  unfolding highest_to
  highest-block {block} {from} b =
      greatest-after from (length block) (λ x. rank_of (get_or l x 0))
      ∙ ap (λ (n : ℕ). max (greatest_to from (λ x. rank_of (get_or l x 0))) n)
      (greatest-ext (length block) (λ x. rank_of (get_or l (from + x) 0)) (λ x. rank_of (get_or block x 0))
      (λ x h. ap rank_of (sym (b.same x h))))

-- ---- a block that is counted

module _ (l : List ℕ) (small : Numbers32 l) where
  -- a rank is above another exactly if the number is an LS that is not below it
  ranks-low : (rank x : ℕ) → when (ltb (get_or l x 0) too_long) 1 ≤ when (ltb (get_or l x 0) rank) 1 → rank_of (get_or l x 0) ≤ rank
  ranks-low rank x h =
      let v = get_or l x 0 in
      elim (dec_lt v too_long) [
        | yes k ↦ elim (dec_lt v rank) [
          | yes r ↦ omega (arith, rank-known v k)
          | no d ↦ absurd (omega (arith, one-yes (lt-ltb v too_long k), one-no (le-ltb v rank (omega arith))))
        ]
        | no d ↦ omega (arith, rank-none v (omega arith) (small x))
      ]

  low-ranks : (rank x : ℕ) → rank_of (get_or l x 0) ≤ rank → when (ltb (get_or l x 0) too_long) 1 ≤ when (ltb (get_or l x 0) rank) 1
  low-ranks rank x h =
      let v = get_or l x 0 in
      elim (dec_lt v too_long) [
        | yes k ↦ omega (arith, one-yes (lt-ltb v too_long k), one-yes (lt-ltb v rank (omega (arith, rank-known v k))))
        | no d ↦ omega (arith, one-no (le-ltb v too_long (omega arith)))
      ]

  -- what is below a rank is an LS
  below-known : (rank x : ℕ) → rank ≤ too_long → when (ltb (get_or l x 0) rank) 1 ≤ when (ltb (get_or l x 0) too_long) 1
  below-known rank x h =
      let v = get_or l x 0 in
      elim (dec_lt v rank) [
        | yes k ↦ omega (arith, one-yes (lt-ltb v rank k), one-yes (lt-ltb v too_long (omega arith)))
        | no d ↦ omega (arith, one-no (le-ltb v rank (omega arith)))
      ]

  highest-small : (n : ℕ) → highest_to l n ≤ too_long
  highest-small n = highest-le l n too_long (λ x h. rank-small (get_or l x 0) (small x))

module _ {l block : List ℕ} {from : ℕ} {t : Lead} {r : Counts} (small : Numbers32 block) (b : Block l from block) (led : Leading l from t)
    (counted : Counted block (length block) t.rank r) where
  quiet-counts : r.known ≤ r.lower → (x : ℕ) → x < length block → rank_of (get_or block x 0) ≤ t.rank
  unfolding count_to
  quiet-counts h x k =
      ranks-low block small t.rank x
      (span_same (length block) (λ y. when (ltb (get_or block y 0) t.rank) 1) (λ y. when (ltb (get_or block y 0) too_long) 1)
      (λ y q. below-known block small t.rank y led.low) (omega (arith, counted.known, counted.lower)) x k)

  counts-quiet : ((x : ℕ) → x < length block → rank_of (get_or block x 0) ≤ t.rank) → r.known ≤ r.lower
  unfolding count_to
  counts-quiet q =
      let le = sum-le (length block) (λ y. when (ltb (get_or block y 0) too_long) 1) (λ y. when (ltb (get_or block y 0) t.rank) 1)
      (λ y j. low-ranks block small t.rank y (q y j)) in
      omega (arith, counted.known, counted.lower, le)

  -- the lead stays
  pub lead-stays : r.known ≤ r.lower → Leading l (from + length block) t
  lead-stays h =
      let le = highest-le block (length block) t.rank (quiet-counts h) in
      record {
        highest = omega (arith, highest-block l b, le, led.highest);
        low = led.low;
        inside = omega (arith, led.inside);
        before = led.before;
        within = (λ k. let w = led.within k in (w.0, w.1, omega (arith, w.2), w.3));
      }

  -- the block takes it
  module _ (rank : ℕ) (made : rank ≡ highest_to block (length block)) (h : r.lower < r.known) where
    higher : highest_to l from < rank
    higher =
        elim (dec_lt (highest_to l from) rank) [
          | yes k ↦ k
          | no d ↦ absurd (omega (arith, counts-quiet (λ x k. omega (arith, highest-ge block (length block) x k, led.highest))))
        ]

    pub lead-moves : Leading l (from + length block) (record { rank = rank; from = from })
    lead-moves =
        record {
          highest = omega (arith, highest-block l b, higher);
          low = omega (arith, highest-small block small (length block));
          inside = omega arith;
          before = (λ x k. omega (arith, highest-ge l from x k, higher));
          within = (λ k. let w = highest-is block (length block) (omega arith) in
              (from + w.0, omega arith, omega (arith, w.1), ap rank_of (sym (b.same w.0 w.1)) ∙ w.2 ∙ sym made));
        }
