-- Laws of sums and of the greatest value over the numbers below n. Assumes nothing.
use mathlib.Core.Path.{◌≡◌, refl, sym, ap}
use mathlib.Core.Bool.{Bool, true, false, cond}
use Prim.Native.Nat.{ℕ, zero, suc, ◌+◌, ◌-◌, ◌≤◌, ◌<◌, max}
use native.Mathlib.Omega.{arith}
use native.Mathlib.Numerals.{add-one}
use native.Mathlib.Decide.{dec_le, ℕ_discrete}
use mathlib.Core.Logic.{⊎_elim}
use Rattle.laws.specs.Sums.{sum_to, greatest_to, when}
use Rattle.laws.proofs.Tests.{two}

-- ---- sums

pub sum-none : (f : ℕ → ℕ) → sum_to 0 f ≡ 0
unfolding sum_to
sum-none f = refl

-- one number more, as a loop counts
pub sum_more : (n : ℕ) (f : ℕ → ℕ) → sum_to (n + 1) f ≡ sum_to n f + f n
unfolding sum_to
sum_more n f = rw add-one

pub sum-ext : (n : ℕ) (f g : ℕ → ℕ) → ((i : ℕ) → i < n → f i ≡ g i) → sum_to n f ≡ sum_to n g
unfolding sum_to
sum-ext zero f g h = refl
sum-ext (suc n) f g h = omega (arith, sum-ext n f g (λ i l. h i (omega arith)), h n (omega arith))

pub sum-le : (n : ℕ) (f g : ℕ → ℕ) → ((i : ℕ) → i < n → f i ≤ g i) → sum_to n f ≤ sum_to n g
unfolding sum_to
sum-le zero f g h = omega arith
sum-le (suc n) f g h = omega (arith, sum-le n f g (λ i l. h i (omega arith)), h n (omega arith))

pub sum-zero : (n : ℕ) (f : ℕ → ℕ) → ((i : ℕ) → i < n → f i ≡ 0) → sum_to n f ≡ 0
unfolding sum_to
sum-zero zero f h = refl
sum-zero (suc n) f h = omega (arith, sum-zero n f (λ i l. h i (omega arith)), h n (omega arith))

-- a sum of values that are at most 1
pub sum_ones : (n : ℕ) (f : ℕ → ℕ) → ((i : ℕ) → i < n → f i ≤ 1) → sum_to n f ≤ n
unfolding sum_to
sum_ones zero f h = omega arith
sum_ones (suc n) f h = omega (arith, sum_ones n f (λ i l. h i (omega arith)), h n (omega arith))

pub sum-add : (n : ℕ) (f g : ℕ → ℕ) → sum_to n (λ i. f i + g i) ≡ sum_to n f + sum_to n g
unfolding sum_to
sum-add zero f g = refl
sum-add (suc n) f g = omega (arith, sum-add n f g)

-- the order of two sums
pub sum-swap : (n m : ℕ) (f : ℕ → ℕ → ℕ) → sum_to n (λ i. sum_to m (λ j. f i j)) ≡ sum_to m (λ j. sum_to n (λ i. f i j))
unfolding sum_to
sum-swap zero m f = sym (sum-zero m (λ j. 0) (λ j l. refl))
sum-swap (suc n) m f = omega (arith, sum-swap n m f, sum-add m (λ j. sum_to n (λ i. f i j)) (λ j. f n j))

-- a sum in which one place alone counts
pub sum_one : (n : ℕ) (f : ℕ → ℕ) (k : ℕ) → k < n → ((i : ℕ) → i < n → (i ≡ k → ⊥) → f i ≡ 0) → sum_to n f ≡ f k
unfolding sum_to
sum_one zero f k l h = absurd (omega arith)
sum_one (suc n) f k l h =
    elim (ℕ_discrete k n) [
      | yes e ↦ omega (arith, sum-zero n f (λ i lt. h i (omega arith) (λ q. omega arith)), ap f e)
      | no d ↦ omega (arith, sum_one n f k (omega arith) (λ i lt q. h i (omega arith) q), h n (omega arith) (λ q. d (sym q)))
    ]

-- two sums that differ at one number
pub sum-but-one : (n : ℕ) (f g : ℕ → ℕ) (k : ℕ) → k < n → ((i : ℕ) → i < n → (i ≡ k → ⊥) → f i ≡ g i) → sum_to n f + g k ≡ sum_to n g + f k
unfolding sum_to
sum-but-one zero f g k l h = absurd (omega arith)
sum-but-one (suc n) f g k l h =
    elim (ℕ_discrete k n) [
      | yes e ↦ omega (arith, sum-ext n f g (λ i lt. h i (omega arith) (λ q. omega arith)), ap f e, ap g e)
      | no d ↦ omega (arith, sum-but-one n f g k (omega arith) (λ i lt q. h i (omega arith) q), h n (omega arith) (λ q. d (sym q)))
    ]

-- a value is at most the sum
pub sum-ge : (n : ℕ) (f : ℕ → ℕ) (k : ℕ) → k < n → f k ≤ sum_to n f
unfolding sum_to
sum-ge zero f k l = absurd (omega arith)
sum-ge (suc n) f k l = elim (ℕ_discrete k n) [ yes e ↦ omega (arith, ap f e) | no d ↦ omega (arith, sum-ge n f k (omega arith)) ]

-- ---- the greatest

pub greatest-none : (f : ℕ → ℕ) → greatest_to 0 f ≡ 0
unfolding greatest_to
greatest-none f = refl

pub greatest-more : (n : ℕ) (f : ℕ → ℕ) → greatest_to (n + 1) f ≡ max (greatest_to n f) (f n)
unfolding greatest_to
greatest-more n f = rw add-one

pub greatest-ge : (n : ℕ) (f : ℕ → ℕ) (i : ℕ) → i < n → f i ≤ greatest_to n f
unfolding greatest_to
greatest-ge zero f i h = absurd (omega arith)
greatest-ge (suc n) f i h = elim (ℕ_discrete i n) [ yes e ↦ omega (arith, ap f e) | no d ↦ omega (arith, greatest-ge n f i (omega arith)) ]

pub greatest-le : (n : ℕ) (f : ℕ → ℕ) (b : ℕ) → ((i : ℕ) → i < n → f i ≤ b) → greatest_to n f ≤ b
unfolding greatest_to
greatest-le zero f b h = omega arith
greatest-le (suc n) f b h = omega (arith, greatest-le n f b (λ i l. h i (omega arith)), h n (omega arith))

pub greatest-ext : (n : ℕ) (f g : ℕ → ℕ) → ((i : ℕ) → i < n → f i ≡ g i) → greatest_to n f ≡ greatest_to n g
unfolding greatest_to
greatest-ext zero f g h = refl
greatest-ext (suc n) f g h = omega (arith, greatest-ext n f g (λ i l. h i (omega arith)), h n (omega arith))

pub greatest-mono : (n : ℕ) (f g : ℕ → ℕ) → ((i : ℕ) → i < n → f i ≤ g i) → greatest_to n f ≤ greatest_to n g
greatest-mono n f g h = greatest-le n f (greatest_to n g) (λ i l. omega (arith, h i l, greatest-ge n g i l))

-- the greatest is 0, or some number's
pub greatest-is : (n : ℕ) (f : ℕ → ℕ) → 0 < greatest_to n f → (k : ℕ) × (k < n) × (f k ≡ greatest_to n f)
unfolding greatest_to
greatest-is zero f h = absurd (omega arith)
greatest-is (suc n) f h =
    elim (dec_le (f n) (greatest_to n f))
    [ yes le ↦ (let i = greatest-is n f (omega arith) in (i.0, omega (arith, i.1), omega (arith, i.2))) | no d ↦ (n, omega arith, omega arith) ]

-- ---- a value under a test

pub when-yes : {b : Bool} (m : ℕ) → b ≡ true → when b m ≡ m
unfolding when
when-yes m e = ap (λ (b : Bool). cond b m 0) e

pub when-no : {b : Bool} (m : ℕ) → b ≡ false → when b m ≡ 0
unfolding when
when-no m e = ap (λ (b : Bool). cond b m 0) e

pub when-zero : (b : Bool) → when b 0 ≡ 0
unfolding when
when-zero true = refl
when-zero false = refl

pub when-swap : (a b : Bool) (m : ℕ) → when a (when b m) ≡ when b (when a m)
unfolding when
when-swap true b m = refl
when-swap false true m = refl
when-swap false false m = refl

pub when-add : (b : Bool) (l m : ℕ) → when b (l + m) ≡ when b l + when b m
unfolding when
when-add true l m = refl
when-add false l m = refl

pub when-le : (b : Bool) (l m : ℕ) → (b ≡ true → l ≤ m) → when b l ≤ when b m
unfolding when
when-le true l m h = h refl
when-le false l m h = omega arith

-- a value under a test is at most the value
pub when-under : (b : Bool) (m : ℕ) → when b m ≤ m
unfolding when
when-under true m = omega arith
when-under false m = omega arith

pub when-ext : (b : Bool) (l m : ℕ) → (b ≡ true → l ≡ m) → when b l ≡ when b m
unfolding when
when-ext true l m h = h refl
when-ext false l m h = refl

pub sum-when : (n : ℕ) (b : Bool) (f : ℕ → ℕ) → when b (sum_to n f) ≡ sum_to n (λ i. when b (f i))
unfolding when
sum-when n true f = refl
sum-when n false f = sym (sum-zero n (λ i. 0) (λ i l. refl))

-- the greatest of what is one more is one more, where there is any
pub greatest-less : (n : ℕ) (b : ℕ → Bool) (f : ℕ → ℕ) → greatest_to n (λ x. when (b x) (f x + 1)) - 1 ≡ greatest_to n (λ x. when (b x) (f x))
unfolding greatest_to
greatest-less zero b f = refl
greatest-less (suc n) b f = ⊎_elim (λ e. omega (arith, greatest-less n b f, when-yes (f n + 1) e, when-yes (f n) e)) (λ e. omega (arith, greatest-less n b f, when-no (f n + 1) e, when-no (f n) e)) (two (b n))
