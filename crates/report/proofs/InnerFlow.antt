-- Laws of the channel rule, as the code bounds it. Assumes nothing.
use mathlib.Core.Path.{◌≡◌, refl, sym, ap, ◌∙◌}
use mathlib.Core.List.{List, [], ◌∷◌}
use mathlib.Core.Bool.{Bool}
use Prim.Native.Nat.{ℕ, zero, suc, ◌+◌, ◌≤◌, ◌<◌, min}
use native.Mathlib.Omega.{arith}
use native.Mathlib.Decide.{dec_lt}
use lib.ListN.{length, get_or}
use lib.Dec.{ltb}
use borrow.Author.Tests.{lt-ltb, le-ltb}
use Rattle.laws.specs.Sums.{when}
use Rattle.laws.proofs.Sums.{greatest-ge, sum-none, sum_more, sum_ones, sum-ext, when-under}
use Rattle.settings.specs.declared.Rules.{Rules}
use Rattle.settings.specs.declared.Threshold.{Threshold}
use Rattle.settings.specs.declared.Threshold.TheVariants.{Over, Never}
use Rattle.factor.specs.Farms.{farm_at, of_farm, Marked}
use Rattle.factor.specs.Channel.{is_channel, largest_of}
use Rattle.report.specs.InnerCells.{count_to, cells_to, above, above_in, Numbers32, Bounding, Bound}
use Rattle.report.proofs.InnerCells.{count-ext}

-- cells that pass a test, one by one
module _ (test : ℕ → Bool) where
  pub cells-none : cells_to test 0 ≡ 0
  unfolding cells_to
  cells-none = sum-none (λ x. when (test x) 1)

  pub cells-more : (n : ℕ) → cells_to test (n + 1) ≡ cells_to test n + when (test n) 1
  unfolding cells_to
  cells-more n = sum_more n (λ x. when (test x) 1)

  pub cells-few : (n : ℕ) → cells_to test n ≤ n
  unfolding cells_to
  cells-few n = sum_ones n (λ x. when (test x) 1) (λ x h. when-under (test x) 1)

-- the counts above one bound, by cell and by count
pub cells-count : (b : ℕ) (count : List ℕ) → cells_to (λ x. ltb b (get_or count x 0)) (length count) ≡ count_to (above b) count (length count)
unfolding cells_to count_to
cells-count b count = refl

-- the largest count stands for itself
pub bounding-largest : (t : Threshold) (count : List ℕ) {r : ℕ} → r ≡ largest_of (length count) count → Bounding t count r
unfolding largest_of
bounding-largest t count e =
    record { most = (λ x h. omega (arith, greatest-ge (length count) (λ y. get_or count y 0) x h)); same = (λ c. ap (λ n. is_channel t n c) e) }

-- where the rule does not ask for it, any number that is large enough does
pub bounding-over : {t : Threshold} {n : ℕ} (count : List ℕ) → t ≡ Over n → Numbers32 count → Bounding t count 4294967295
unfolding is_channel
bounding-over count e small = record { most = (λ x h. omega (arith, small x)); same = (λ c. rw e) }

pub bounding-never : {t : Threshold} (count : List ℕ) → t ≡ Never → Numbers32 count → Bounding t count 4294967295
unfolding is_channel
bounding-never count e small = record { most = (λ x h. omega (arith, small x)); same = (λ c. rw e) }

-- no more than 32 bits of a bound matter
capped-bound : (b c : ℕ) → c < 4294967296 → ltb (min b 4294967295) c ≡ ltb b c
capped-bound b c h =
    elim (dec_lt b c) [
      | yes k ↦ lt-ltb (min b 4294967295) c (omega arith) ∙ sym (lt-ltb b c k)
      | no d ↦ le-ltb (min b 4294967295) c (omega arith) ∙ sym (le-ltb b c (omega arith))
    ]

-- so the counts above the capped bound are those of channels
pub bound-is : (t : Threshold) (count : List ℕ) (r b : ℕ) → Numbers32 count → Bounding t count r → ((c : ℕ) → c ≤ r → ltb b c ≡ is_channel t r c) →
    Bound t count (min b 4294967295)
bound-is t count r b small bounding m =
    record { tells = λ x h. let c = get_or count x 0 in capped-bound b c (small x) ∙ m c (bounding.most x h) ∙ bounding.same c }

pub channels-counted : (t : Threshold) (count : List ℕ) (b : ℕ) → Bound t count b →
    count_to (above b) count (length count) ≡ count_to (is_channel t (largest_of (length count) count)) count (length count)
channels-counted t count b bound = count-ext (above b) (is_channel t (largest_of (length count) count)) count (length count) (λ x h. bound.tells x h)

-- and of two farms
pub channels-shared : (f s : Rules) (marks count : List ℕ) (a b : ℕ) → Marked (length count) marks → Bound f.threshold count a →
    Bound s.threshold count b →
    cells_to (above_in (a ∷ b ∷ []) marks count) (length count)
    ≡ cells_to (λ x. is_channel (of_farm f s (farm_at marks x)).threshold (largest_of (length count) count) (get_or count x 0)) (length count)
unfolding cells_to
channels-shared f s marks count a b k p q =
    sum-ext (length count) (λ x. when (above_in (a ∷ b ∷ []) marks count x) 1)
    (λ x. when (is_channel (of_farm f s (farm_at marks x)).threshold (largest_of (length count) count) (get_or count x 0)) 1)
    (λ x h. ap (λ (t : Bool). when t 1) (go (farm_at marks x) x h (k.few x)))
  where
    go : (farm x : ℕ) → x < length count → farm < 2 →
        ltb (get_or (a ∷ b ∷ []) farm 0) (get_or count x 0) ≡ is_channel (of_farm f s farm).threshold (largest_of (length count) count) (get_or count x 0)
    go zero x h l = p.tells x h
    go (suc zero) x h l = q.tells x h
    go (suc (suc n)) x h l = absurd (omega arith)
