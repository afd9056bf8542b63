-- The ranges as the code tests them: sizes, the cell side, heights, and the first bad cell. Assumes nothing.
use mathlib.Core.Path.{◌≡◌, refl, sym, ap, ◌∙◌}
use mathlib.Core.List.{List}
use mathlib.Core.Bool.{Bool, true, false, not, cond, ◌&&◌, ◌||◌}
use Prim.Native.Nat.{ℕ, ◌+◌, ◌≤◌, ◌<◌}
use native.Mathlib.Omega.{arith}
use lib.ListN.{length, get_or}
use lib.IntN.{ℤ, pos, negsuc}
use lib.Signed.{lt_z, le_z}
use lib.Dec.{leb, ltb}
use borrow.Author.Tests.{leb-true, le-leb, lt-leb, lt-ltb, le-ltb}
use borrow.Author.Count.{below_more}
use Rattle.std.proofs.Common.{Some, None}
use Rattle.laws.proofs.Tests.{and-false-left, and-true-left}
use Rattle.laws.proofs.Lists.{get_or_any}
use Rattle.laws.proofs.Signed.{lt_not_le, not-lt-le}
use Rattle.laws.proofs.First.{first-is, first-none}
use Rattle.text.specs.Quantities.{height_in, no_data_height}
use Rattle.text.specs.Ranges.{size_accepted, side_accepted, height_accepted, first_bad, bad_cell}

pub size_none : (n : ℕ) → n < 1 → false ≡ size_accepted n
unfolding size_accepted
size_none n h = and-false-left (leb 1 n) (leb n 1024) (lt-leb 1 n h)

pub size-some : (n : ℕ) → 1 ≤ n → leb n 1024 ≡ size_accepted n
unfolding size_accepted
size-some n h = and-true-left (leb 1 n) (leb n 1024) (le-leb 1 n h)

pub cell-side-none : (c : ℕ) → c < 1 → false ≡ side_accepted c
unfolding side_accepted
cell-side-none c h = and-false-left (leb 1 c) (leb c 100000) (lt-leb 1 c h)

pub cell-side-some : (c : ℕ) → 1 ≤ c → leb c 100000 ≡ side_accepted c
unfolding side_accepted
cell-side-some c h = and-true-left (leb 1 c) (leb c 100000) (le-leb 1 c h)

-- ---- heights

pub height-none : (z : ℤ) → z ≡ no_data_height → true ≡ height_accepted z
unfolding height_accepted
height-none z e = sym (ap height_accepted e)

-- a height that is not NoData is accepted if it is in range
height-other : (z : ℤ) → (z ≡ no_data_height → ⊥) → height_in z ≡ height_accepted z
unfolding height_accepted
height-other (pos n) d = refl
height-other (negsuc n) d = go (leb 999899 n) refl (leb n 999899) refl
  where
    go : (a : Bool) → leb 999899 n ≡ a → (b : Bool) → leb n 999899 ≡ b → height_in (negsuc n) ≡ ((a && b) || height_in (negsuc n))
    go true p true q = absurd (d (ap negsuc (omega (arith, leb-true 999899 n p, leb-true n 999899 q))))
    go true p false q = refl
    go false p b q = refl

pub height-low : (z : ℤ) → (z ≡ no_data_height → ⊥) → lt_z z (negsuc 49999) ≡ true → false ≡ height_accepted z
height-low z d h = and-false-left (le_z (negsuc 49999) z) (le_z z (pos 900000)) (lt_not_le z (negsuc 49999) h) ∙ height-other z d

pub height-high : (z : ℤ) → (z ≡ no_data_height → ⊥) → lt_z z (negsuc 49999) ≡ false → le_z z (pos 900000) ≡ height_accepted z
height-high z d h = and-true-left (le_z (negsuc 49999) z) (le_z z (pos 900000)) (not-lt-le z (negsuc 49999) h) ∙ height-other z d

-- ---- the first bad cell

-- every height before the cell x is accepted
abbrev pub GoodTo : List ℤ → ℕ → Type 0
GoodTo elevation x = (y : ℕ) → y < x → height_accepted (get_or elevation y no_data_height) ≡ true

pub good_none : (elevation : List ℤ) → GoodTo elevation 0
good_none elevation y h = absurd (omega arith)

pub good_more : (elevation : List ℤ) (x : ℕ) → x < length elevation → GoodTo elevation x → true ≡ height_accepted (get_or elevation x (pos 0)) → GoodTo elevation (x + 1)
good_more elevation x h g e = below_more (λ (y : ℕ). height_accepted (get_or elevation y no_data_height) ≡ true) x g (ap height_accepted (get_or_any elevation x no_data_height (pos 0) h) ∙ sym e)

pub first-bad : (elevation : List ℤ) (x : ℕ) → x < length elevation → GoodTo elevation x → false ≡ height_accepted (get_or elevation x (pos 0)) → x ≡ first_bad (length elevation) elevation
unfolding first_bad
first-bad elevation x h g e =
    sym (first-is (λ y. not (height_accepted (get_or elevation y no_data_height))) (length elevation) x (λ y l. ap not (g y l)) h (ap not (ap height_accepted (get_or_any elevation x no_data_height (pos 0) h) ∙ sym e)))

pub all-good : (elevation : List ℤ) (x : ℕ) → x ≡ length elevation → GoodTo elevation x → x ≡ first_bad (length elevation) elevation
unfolding first_bad
all-good elevation x e g = e ∙ sym (first-none (λ y. not (height_accepted (get_or elevation y no_data_height))) (length elevation) (λ y l. ap not (g y (omega arith))))

-- the same as the code answers it
pub bad-found : (elevation : List ℤ) (x : ℕ) → x < length elevation → GoodTo elevation x → false ≡ height_accepted (get_or elevation x (pos 0))
    → Some x ≡ bad_cell (length elevation) elevation
bad-found elevation x h g e =
    let q = first-bad elevation x h g e in
    ap (λ (b : Bool). cond b (Some x) None) (sym (lt-ltb x (length elevation) h))
    ∙ ap (λ (y : ℕ). cond (ltb y (length elevation)) (Some y) None) q

pub none-found : (elevation : List ℤ) (x : ℕ) → x ≡ length elevation → GoodTo elevation x → None ≡ bad_cell (length elevation) elevation
none-found elevation x e g =
    let q = all-good elevation x e g in
    ap (λ (b : Bool). cond b (Some x) None) (sym (le-ltb x (length elevation) (omega (arith, e))))
    ∙ ap (λ (y : ℕ). cond (ltb y (length elevation)) (Some y) None) q
