-- The power rule of the length factor: rows that pass a computed test give the first millimetre at which each t is reached, so an
-- entry tells whether a length reaches its t. Assumes nothing.
use mathlib.Core.Path.{◌≡◌, refl, sym, ◌∙◌}
use mathlib.Core.Bool.{Bool, true, false, not, cond, ◌&&◌, ◌||◌, true≢false}
use mathlib.Core.List.{List}
use Prim.Native.Nat.{ℕ, zero, suc, ◌+◌, ◌-◌, ◌*◌, ◌/◌, ◌%◌, ◌^◌, ◌≤◌, ◌<◌}
use native.Mathlib.Nat.{le_trans, le_refl, mul-le-mul_left, mul-le-mul_right, pow-le-pow_left}
use native.Mathlib.Decide.{dec_le}
use native.Mathlib.Omega.{arith}
use borrow.Author.Tests.{leb-true, leb-false, le-leb, lt-leb, eqb-true, not-true}
use lib.Dec.{leb, eqb}
use lib.ListN.{get_or, length}
use Rattle.laws.proofs.Tests.{and_both}
use Rattle.laws.specs.Greatest.{greatest}
use Rattle.factor.specs.LengthFactor.{greatest_mm, reached, length_factor}
use Rattle.factor.specs.Inner.{Listed}
use Rattle.laws.proofs.Greatest.{Falling, greatest-is, greatest-passes, greatest-above}
use Rattle.factor.proofs.InnerGuesses.{greatest-here}
use Rattle.factor.proofs.Tables.{every, every-at}

-- ---- what is reached at a length

-- the two sides of the power rule
abbrev asked : ℕ → ℕ → ℕ
asked k t = t ^ 10 * 2212848 ^ k

abbrev given : ℕ → ℕ → ℕ
given k mm = (100 * mm) ^ k * 100 ^ 10

-- t is reached at each longer length too, and so is each smaller t
pub reached-on : (k : ℕ) {m n t u : ℕ} → m ≤ n → t ≤ u → reached k m u ≡ true → reached k n t ≡ true
reached-on k {m} {n} {t} {u} h l r =
    let more : asked k t ≤ asked k u = mul-le-mul_right (2212848 ^ k) (pow-le-pow_left l 10) in
    let less : given k m ≤ given k n = mul-le-mul_right (100 ^ 10) (pow-le-pow_left (mul-le-mul_left 100 h) k) in
    le-leb (asked k t) (given k n) (le_trans more (le_trans (leb-true (asked k u) (given k m) r) less))

pub missed-on : (k : ℕ) {m n t u : ℕ} → m ≤ n → t ≤ u → reached k n t ≡ false → reached k m u ≡ false
missed-on k {m} {n} {t} {u} h l f = go (reached k m u) refl
  where
    go : (b : Bool) → reached k m u ≡ b → reached k m u ≡ false
    go true e = absurd (true≢false (sym (reached-on k h l e) ∙ f))
    go false e = e

-- ---- the rows, one for each class, of t from 0 to 372

-- the entry x of t is 0, or the millimetre before does not reach t; it reaches t, if it is a length that has a factor, and else none does
abbrev pub is_first : ℕ → ℕ → ℕ → Bool
is_first k t x = cond (leb x greatest_mm) (reached k x t && (leb x 0 || not (reached k (x - 1) t))) (not (reached k greatest_mm t))

-- so is each entry of the four rows
abbrev pub passes : List ℕ → Bool
passes xs = eqb (length xs) 1492 && every (λ i x. is_first (i / 373 + 2) (i % 373) x) 0 xs

-- such an entry tells whether a length reaches t
first-tells : (k t x mm : ℕ) → is_first k t x ≡ true → mm ≤ greatest_mm → leb x mm ≡ reached k mm t
first-tells k t x mm f h = go (leb x greatest_mm) refl f
  where
    here : (b : Bool) → leb x mm ≡ b → reached k x t ≡ true → (leb x 0 || not (reached k (x - 1) t)) ≡ true → leb x mm ≡ reached k mm t
    here true e r n = e ∙ sym (reached-on k (leb-true x mm e) (le_refl t) r)
    here false e r n = e ∙ sym (before (leb x 0) refl n)
      where
        before : (b : Bool) → leb x 0 ≡ b → (b || not (reached k (x - 1) t)) ≡ true → reached k mm t ≡ false
        before true z n = absurd (omega (arith, leb-true x 0 z, leb-false x mm e))
        before false z n = missed-on k (omega (arith, leb-false x mm e)) (le_refl t) (not-true (reached k (x - 1) t) n)

    go : (b : Bool) → leb x greatest_mm ≡ b → cond b (reached k x t && (leb x 0 || not (reached k (x - 1) t))) (not (reached k greatest_mm t)) ≡ true → leb x mm ≡ reached k mm t
    go true e f =
        let both = and_both (reached k x t) (leb x 0 || not (reached k (x - 1) t)) f in
        here (leb x mm) refl both.0 both.1
    go false e f = lt-leb x mm (omega (arith, leb-false x greatest_mm e)) ∙ sym (missed-on k h (le_refl t) (not-true (reached k greatest_mm t) f))

pub listed : {xs : List ℕ} → passes xs ≡ true → Listed xs
listed {xs} p = record { tells = λ class t mm c l h. first-tells (class + 2) t (get_or xs (373 * class + t) 0) mm (at class t c l) h }
  where
    both : (eqb (length xs) 1492 ≡ true) × (every (λ i x. is_first (i / 373 + 2) (i % 373) x) 0 xs ≡ true)
    both = and_both (eqb (length xs) 1492) (every (λ i x. is_first (i / 373 + 2) (i % 373) x) 0 xs) p

    long : length xs ≡ 1492
    long = eqb-true (length xs) 1492 both.0

    at : (class t : ℕ) → class < 4 → t < 373 → is_first (class + 2) t (get_or xs (373 * class + t) 0) ≡ true
    at class t c l =
        let class-is : (373 * class + t) / 373 ≡ class = omega arith in
        let t-is : (373 * class + t) % 373 ≡ t = omega arith in
        rw (class-is, t-is) at (every-at (λ i x. is_first (i / 373 + 2) (i % 373) x) xs (373 * class + t) both.1 (omega (arith, long)))

-- ---- the factor of a length

-- where t is reached, each smaller t is
pub reached-falling : (k mm n : ℕ) → Falling (reached k mm) n
reached-falling k mm n u v p h l t = reached-on k (le_refl mm) h t

-- a t that is reached, with the next one not
pub factor-here : (k mm t : ℕ) → t ≤ 1000 → reached k mm t ≡ true → reached k mm (t + 1) ≡ false → length_factor k mm ≡ t
unfolding length_factor
factor-here k mm t l r m = greatest-here 1000 t (reached-falling k mm 1000) l r m

-- ---- the factor is the greatest of all, not only of those up to 1,000

pub length-factor-greatest : (k mm : ℕ) → k ≤ 5 → mm ≤ greatest_mm →
    (reached k mm (length_factor k mm) ≡ true) × ((u : ℕ) → length_factor k mm < u → reached k mm u ≡ false)
unfolding length_factor
length-factor-greatest k mm h l =
    (low (greatest (reached k mm) 1000) (greatest-passes (reached k mm) 1000), (λ u g. high u g (dec_le u 1000)))
  where
    low : (t : ℕ) → (0 < t → reached k mm t ≡ true) → reached k mm t ≡ true
    low zero p = le-leb (asked k 0) (given k mm) (omega arith)
    low (suc t) p = p (omega arith)

    over : (k : ℕ) → k ≤ 5 → reached k greatest_mm 1001 ≡ false
    over zero h = refl
    over (suc zero) h = refl
    over (suc (suc zero)) h = refl
    over (suc (suc (suc zero))) h = refl
    over (suc (suc (suc (suc zero)))) h = refl
    over (suc (suc (suc (suc (suc zero))))) h = refl
    over (suc (suc (suc (suc (suc (suc k)))))) h = absurd (omega arith)

    high : (u : ℕ) → greatest (reached k mm) 1000 < u → Dec (u ≤ 1000) → reached k mm u ≡ false
    high u g (yes d) = greatest-above (reached k mm) 1000 u g d
    high u g (no d) = missed-on k {t = 1001} l (omega (arith, d)) (over k h)

-- ---- the search in a row, which ends at 371

last : (class : ℕ) → class < 4 → reached (class + 2) greatest_mm 372 ≡ false
last zero h = refl
last (suc zero) h = refl
last (suc (suc zero)) h = refl
last (suc (suc (suc zero))) h = refl
last (suc (suc (suc (suc class)))) h = absurd (omega arith)

pub factor-in-row : (class mm : ℕ) → class < 4 → mm ≤ greatest_mm → greatest (reached (class + 2) mm) 371 ≡ length_factor (class + 2) mm
factor-in-row class mm h l =
    let all = length-factor-greatest (class + 2) mm (omega arith) l in
    greatest-is (reached (class + 2) mm) 371 (length_factor (class + 2) mm) (within (dec_le (length_factor (class + 2) mm) 371) all.0) (λ p. all.0) (λ u a b. all.1 u a)
  where
    within : Dec (length_factor (class + 2) mm ≤ 371) → reached (class + 2) mm (length_factor (class + 2) mm) ≡ true → length_factor (class + 2) mm ≤ 371
    within (yes d) r = d
    within (no d) r = absurd (true≢false (sym (reached-on (class + 2) {t = 372} l (omega (arith, d)) r) ∙ last class h))
