-- Laws of what the loops over the cells of a map count. Assumes nothing.
use mathlib.Core.Path.{◌≡◌, refl, sym, ap, ap₂, ◌∙◌}
use mathlib.Core.List.{List}
use mathlib.Core.Bool.{Bool, true, false, not, ◌&&◌}
use mathlib.Core.Logic.{◌⊎◌, inl, inr, ⊎_elim}
use Prim.Native.Nat.{ℕ, zero, suc, ◌+◌, ◌*◌, ◌≤◌, ◌<◌}
use native.Mathlib.Omega.{arith}
use native.Mathlib.Decide.{dec_lt, ℕ_discrete}
use lib.ListN.{length, get_or}
use lib.Dec.{ltb, leb}
use mir.Val.{bool_byte}
use borrow.Author.Tests.{lt-ltb, le-ltb, le-leb, lt-leb, eq-eqb, ne_eqb}
use Rattle.laws.specs.Sums.{sum_to, when}
use Rattle.laws.proofs.Sums.{sum-none, sum_more, sum_ones, sum-ext, sum-add, when-under, when-yes, when-no}
use Rattle.laws.proofs.Tests.{and-false-left, and-false-right}
use Rattle.factor.specs.Cell.{too_long}
use Rattle.factor.specs.Grid.{no_data_factor}
use Rattle.report.specs.Maps.{is_factor, is_zero, is_long, is_between, is_from}
use Rattle.report.specs.Reports.{rank_of}
use Rattle.report.specs.declared.classes.Counts.{Counts}
use Rattle.report.specs.InnerCells.{count_to, factors_to, all_to, below, is_no_data, is_wet, Numbers32, Block, Counted, Few}
use Rattle.report.proofs.InnerSpans.{sum-after}

-- ---- counts, cell by cell

module _ (test : ℕ → Bool) (l : List ℕ) where
  pub count_none : count_to test l 0 ≡ 0
  unfolding count_to
  count_none = sum-none (λ x. when (test (get_or l x 0)) 1)

  pub count-more : (n : ℕ) → count_to test l (n + 1) ≡ count_to test l n + when (test (get_or l n 0)) 1
  unfolding count_to
  count-more n = sum_more n (λ x. when (test (get_or l x 0)) 1)

  pub count-few : (n : ℕ) → count_to test l n ≤ n
  unfolding count_to
  count-few n = sum_ones n (λ x. when (test (get_or l x 0)) 1) (λ x h. when-under (test (get_or l x 0)) 1)

  -- the cells of a block after those before it
  pub count-block : {block : List ℕ} {from : ℕ} → Block l from block →
      count_to test l (from + length block) ≡ count_to test l from + count_to test block (length block)
  unfolding count_to
  count-block {block} {from} b =
      sum-after from (length block) (λ x. when (test (get_or l x 0)) 1)
      ∙ ap (λ (n : ℕ). sum_to from (λ x. when (test (get_or l x 0)) 1) + n)
      (sum-ext (length block) (λ x. when (test (get_or l (from + x) 0)) 1) (λ x. when (test (get_or block x 0)) 1)
      (λ x h. ap (λ (v : ℕ). when (test v) 1) (sym (b.same x h))))

-- a test as a number
pub bit : (b : Bool) → bool_byte b ≡ when b 1
unfolding when
bit true = refl
bit false = refl

pub when-bit : (b : Bool) → bool_byte b ≤ 1
when-bit true = omega arith
when-bit false = omega arith

-- no cells
abbrev pub no_counts : Counts
no_counts = record { zero = 0; under1 = 0; under5 = 0; under10 = 0; known = 0; no_data = 0; lower = 0 }

pub counted_none : (l : List ℕ) (given : ℕ) → Counted l 0 given no_counts
counted_none l given =
    record {
      zero = sym (count_none (below 1) l);
      under1 = sym (count_none (below 100000) l);
      under5 = sym (count_none (below 500000) l);
      under10 = sym (count_none (below 1000000) l);
      known = sym (count_none (below too_long) l);
      no-data = sym (count_none is_no_data l);
      lower = sym (count_none (below given) l);
    }

pub counted-few : {l : List ℕ} {n given : ℕ} {r : Counts} → Counted l n given r → Few r n
counted-few {l} {n} {given} c =
    record {
      zero = omega (arith, count-few (below 1) l n, c.zero);
      under1 = omega (arith, count-few (below 100000) l n, c.under1);
      under5 = omega (arith, count-few (below 500000) l n, c.under5);
      under10 = omega (arith, count-few (below 1000000) l n, c.under10);
      known = omega (arith, count-few (below too_long) l n, c.known);
      no-data = omega (arith, count-few is_no_data l n, c.no-data);
      lower = omega (arith, count-few (below given) l n, c.lower);
    }

-- tests that agree on the list
pub count-ext : (p q : ℕ → Bool) (l : List ℕ) (n : ℕ) → ((x : ℕ) → x < n → p (get_or l x 0) ≡ q (get_or l x 0)) → count_to p l n ≡ count_to q l n
unfolding count_to
count-ext p q l n h =
    sum-ext n (λ x. when (p (get_or l x 0)) 1) (λ x. when (q (get_or l x 0)) 1) (λ x k. ap (λ (b : Bool). when b 1) (h x k))

-- a test that is split into two
pub count-split : (p q r : ℕ → Bool) (l : List ℕ) (n : ℕ) → ((x : ℕ) → when (p (get_or l x 0)) 1 + when (q (get_or l x 0)) 1 ≡ when (r (get_or l x 0)) 1) →
    count_to p l n + count_to q l n ≡ count_to r l n
unfolding count_to
count-split p q r l n h =
    sym (sum-add n (λ x. when (p (get_or l x 0)) 1) (λ x. when (q (get_or l x 0)) 1))
    ∙ sum-ext n (λ x. when (p (get_or l x 0)) 1 + when (q (get_or l x 0)) 1) (λ x. when (r (get_or l x 0)) 1) (λ x k. h x)

-- a test that each cell passes
pub count-all : (l : List ℕ) (n : ℕ) → count_to (λ v. true) l n ≡ n
unfolding count_to sum_to when
count-all l zero = refl
count-all l (suc n) = omega (arith, count-all l n)

-- ---- one number

-- an LS, too long or NoData
pub three : (v : ℕ) → v < 4294967296 → (v < too_long) ⊎ ((v ≡ too_long) ⊎ (v ≡ no_data_factor))
three v h = elim (dec_lt v too_long) [ yes k ↦ inl k | no d ↦ inr (elim (ℕ_discrete v too_long) [ yes e ↦ inl e | no f ↦ inr (omega arith) ]) ]

pub factor-yes : (v : ℕ) → v < too_long → is_factor v ≡ true
unfolding is_factor
factor-yes v h = rw (ne_eqb v no_data_factor (λ e. omega arith), ne_eqb v too_long (λ e. omega arith))

pub factor-no : (v : ℕ) → too_long ≤ v → v < 4294967296 → is_factor v ≡ false
unfolding is_factor
factor-no v h k =
    elim (ℕ_discrete v no_data_factor) [ yes e ↦ rw e | no d ↦ let e : v ≡ too_long = omega arith in rw e ]

pub rank-known : (v : ℕ) → v < too_long → rank_of v ≡ v + 1
unfolding rank_of when
rank-known v h = rw (factor-yes v h)

pub rank-none : (v : ℕ) → too_long ≤ v → v < 4294967296 → rank_of v ≡ 0
unfolding rank_of when
rank-none v h k = rw (factor-no v h k)

pub rank-small : (v : ℕ) → v < 4294967296 → rank_of v ≤ too_long
rank-small v h = elim (dec_lt v too_long) [ yes k ↦ omega (arith, rank-known v k) | no d ↦ omega (arith, rank-none v (omega arith) h) ]

-- 1 for a test that holds, and 0 for one that fails
pub one-yes : {b : Bool} → b ≡ true → when b 1 ≡ 1
one-yes e = when-yes 1 e

pub one-no : {b : Bool} → b ≡ false → when b 1 ≡ 0
one-no e = when-no 1 e

-- ---- the classes

pub between-yes : (low high v : ℕ) → low ≤ v → v < high → high ≤ too_long → is_between low high v ≡ true
unfolding is_between
between-yes low high v h k t = rw (factor-yes v (omega arith), le-leb low v h, lt-ltb v high k)

pub between-low : (low high v : ℕ) → v < low → is_between low high v ≡ false
unfolding is_between
between-low low high v h =
    sym (and-false-right (is_factor v) (leb low v && ltb v high) (sym (and-false-left (leb low v) (ltb v high) (lt-leb low v h))))

pub between-high : (low high v : ℕ) → high ≤ v → is_between low high v ≡ false
unfolding is_between
between-high low high v h =
    sym (and-false-right (is_factor v) (leb low v && ltb v high) (sym (and-false-right (leb low v) (ltb v high) (le-ltb v high h))))

-- between two bounds: what is under the higher and not under the lower
pub between_split : (low high v : ℕ) → low ≤ high → high ≤ too_long → when (ltb v low) 1 + when (is_between low high v) 1 ≡ when (ltb v high) 1
between_split low high v h t =
    elim (dec_lt v low) [
      | yes l ↦ omega (arith, one-yes (lt-ltb v low l), one-no (between-low low high v l), one-yes (lt-ltb v high (omega arith)))
      | no d ↦ elim (dec_lt v high) [
        | yes k ↦ omega (arith, one-no (le-ltb v low (omega arith)), one-yes (between-yes low high v (omega arith) k t), one-yes (lt-ltb v high k))
        | no e ↦ omega (arith, one-no (le-ltb v low (omega arith)), one-no (between-high low high v (omega arith)), one-no (le-ltb v high (omega arith)))
      ]
    ]

-- under a bound
pub under-is : (high v : ℕ) → high ≤ too_long → is_between 0 high v ≡ ltb v high
under-is high v t =
    elim (dec_lt v high) [
      | yes k ↦ between-yes 0 high v (omega arith) k t ∙ sym (lt-ltb v high k)
      | no d ↦ between-high 0 high v (omega arith) ∙ sym (le-ltb v high (omega arith))
    ]

pub from-yes : (low v : ℕ) → low ≤ v → v < too_long → is_from low v ≡ true
unfolding is_from
from-yes low v h k = ap₂ ◌&&◌ (factor-yes v k) (le-leb low v h)

pub from_low : (low v : ℕ) → v < low → is_from low v ≡ false
unfolding is_from
from_low low v h = sym (and-false-right (is_factor v) (leb low v) (lt-leb low v h))

pub from-none : (low v : ℕ) → too_long ≤ v → v < 4294967296 → is_from low v ≡ false
unfolding is_from
from-none low v h k = sym (and-false-left (is_factor v) (leb low v) (factor-no v h k))

-- from a bound on: what is an LS and not under it
pub from-split : (low v : ℕ) → low ≤ too_long → v < 4294967296 → when (ltb v low) 1 + when (is_from low v) 1 ≡ when (ltb v too_long) 1
from-split low v h k =
    elim (dec_lt v low) [
      | yes l ↦ omega (arith, one-yes (lt-ltb v low l), one-no (from_low low v l), one-yes (lt-ltb v too_long (omega arith)))
      | no d ↦ elim (dec_lt v too_long) [
        | yes l ↦ omega (arith, one-no (le-ltb v low (omega arith)), one-yes (from-yes low v (omega arith) l), one-yes (lt-ltb v too_long l))
        | no e ↦ omega (arith, one-no (le-ltb v low (omega arith)), one-no (from-none low v (omega arith) k), one-no (le-ltb v too_long (omega arith)))
      ]
    ]

pub zero_is : (v : ℕ) → ltb v 1 ≡ is_zero v
zero_is v = elim (ℕ_discrete v 0) [ yes e ↦ rw e | no d ↦ le-ltb v 1 (omega arith) ∙ sym (ne_eqb v 0 d) ]

-- ---- cells too long, and the sum

-- every number is an LS, too long or NoData
kinds : (v : ℕ) → v < 4294967296 → when (ltb v too_long) 1 + when (is_long v) 1 + when (is_no_data v) 1 ≡ 1
kinds v h =
    ⊎_elim (λ k. omega (arith, one-yes (lt-ltb v too_long k), one-no (ne_eqb v too_long (λ e. omega arith)), one-no (ne_eqb v no_data_factor (λ e. omega arith))))
    (⊎_elim
    (λ e. omega (arith, one-no (le-ltb v too_long (omega arith)), one-yes (eq-eqb v too_long e), one-no (ne_eqb v no_data_factor (λ q. omega arith))))
    (λ e. omega (arith, one-no (le-ltb v too_long (omega arith)), one-no (ne_eqb v too_long (λ q. omega arith)), one-yes (eq-eqb v no_data_factor e))))
    (three v h)

-- and is counted in the sum of LS, or once more than that
parts : (v : ℕ) → v < 4294967296 → when (is_factor v) v + too_long * when (is_long v) 1 + no_data_factor * when (is_no_data v) 1 ≡ v
parts v h =
    ⊎_elim (λ k. omega (arith, when-yes v (factor-yes v k), one-no (ne_eqb v too_long (λ e. omega arith)), one-no (ne_eqb v no_data_factor (λ e. omega arith))))
    (⊎_elim
    (λ e. omega (arith, when-no v (factor-no v (omega arith) h), one-yes (eq-eqb v too_long e), one-no (ne_eqb v no_data_factor (λ q. omega arith))))
    (λ e. omega (arith, when-no v (factor-no v (omega arith) h), one-no (ne_eqb v too_long (λ q. omega arith)), one-yes (eq-eqb v no_data_factor e))))
    (three v h)

module _ (l : List ℕ) (small : Numbers32 l) where
  pub kinds-all : (n : ℕ) → count_to (below too_long) l n + count_to is_long l n + count_to is_no_data l n ≡ n
  unfolding count_to sum_to
  kinds-all zero = refl
  kinds-all (suc n) = omega (arith, kinds-all n, kinds (get_or l n 0) (small n))

  pub parts_all : (n : ℕ) → factors_to l n + too_long * count_to is_long l n + no_data_factor * count_to is_no_data l n ≡ all_to l n
  unfolding factors_to all_to count_to sum_to
  parts_all zero = refl
  parts_all (suc n) = omega (arith, parts_all n, parts (get_or l n 0) (small n))

  pub all-few : (n : ℕ) → all_to l n ≤ n * 4294967295
  unfolding all_to sum_to
  all-few zero = omega arith
  all-few (suc n) = omega (arith, all-few n, small n)

pub all_none : (l : List ℕ) → all_to l 0 ≡ 0
unfolding all_to
all_none l = sum-none (λ x. get_or l x 0)

pub all_more : (l : List ℕ) (n : ℕ) → all_to l (n + 1) ≡ all_to l n + get_or l n 0
unfolding all_to
all_more l n = sum_more n (λ x. get_or l x 0)

pub all-block : {l block : List ℕ} {from : ℕ} → Block l from block → all_to l (from + length block) ≡ all_to l from + all_to block (length block)
unfolding all_to
all-block {l} {block} {from} b =
    sum-after from (length block) (λ x. get_or l x 0)
    ∙ ap (λ (n : ℕ). sum_to from (λ x. get_or l x 0) + n)
    (sum-ext (length block) (λ x. get_or l (from + x) 0) (λ x. get_or block x 0) (λ x h. sym (b.same x h)))

-- ---- counts that are not 0

pub wet-split : (l : List ℕ) (n : ℕ) → count_to is_zero l n + count_to is_wet l n ≡ n
unfolding when
wet-split l n = count-split is_zero is_wet (λ v. true) l n (λ x. either (is_zero (get_or l x 0))) ∙ count-all l n
  where
    either : (b : Bool) → when b 1 + when (not b) 1 ≡ when true 1
    either true = refl
    either false = refl
