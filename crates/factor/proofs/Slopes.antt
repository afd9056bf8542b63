-- The steepness of a cell from its fall: that of its drop and its direction, and how large it is. Assumes nothing.
use mathlib.Core.Path.{◌≡◌, refl, ap, ◌∙◌}
use mathlib.Core.Bool.{Bool, true, false, cond}
use Prim.Native.Nat.{ℕ, zero, suc, ◌+◌, ◌*◌, ◌/◌, ◌%◌, ◌≤◌, ◌<◌}
use native.Mathlib.Nat.{mul-le-mul}
use native.Mathlib.Omega.{arith}
use lib.Dec.{eqb}
use borrow.Author.Tests.{lt-ltb}
use Rattle.terrain.specs.Cells.{cardinal}
use Rattle.terrain.specs.Filled.{top}
use Rattle.terrain.specs.Direction.{steep_of}
use Rattle.terrain.specs.Falls.{fall_of}
use Rattle.factor.specs.Inner.{greatest_fall, steepest, steepness_of}

-- ---- how large falls and steepnesses are

pub square-small : (d : ℕ) → d ≤ top → d * d ≤ top * top
square-small d h = omega (arith, mul-le-mul h h)

pub steepness-small : {fall : ℕ} → fall ≤ greatest_fall → steepness_of fall ≤ steepest
unfolding steepness_of
steepness-small {fall} h = go (eqb (fall % 2) 0)
  where
    small : (fall / 2) * (fall / 2) ≤ top * top
    small = square-small (fall / 2) (omega arith)

    go : (b : Bool) → cond b (2 * ((fall / 2) * (fall / 2))) ((fall / 2) * (fall / 2)) ≤ steepest
    go true = omega (arith, small)
    go false = omega (arith, small)

fall-none : (k : ℕ) → fall_of k 0 ≡ 0
unfolding fall_of
fall-none k = refl

fall-some : (k d : ℕ) → 0 < d → fall_of k d ≡ 2 * d + k % 2
unfolding fall_of
fall-some k d h = ap (λ (b : Bool). cond b (2 * d + k % 2) 0) (lt-ltb 0 d h)

pub fall-small : (k d : ℕ) → d ≤ top → fall_of k d ≤ greatest_fall
fall-small k zero h = omega (arith, fall-none k)
fall-small k (suc d) h = omega (arith, fall-some k (suc d) (omega arith))

-- ---- the steepness of a fall

-- half a fall is the drop, and its last bit tells a diagonal
steepness-drop : (k d : ℕ) → steepness_of (2 * d + k % 2) ≡ steep_of k d
unfolding steepness_of
steepness-drop k d =
    let e : (2 * d + k % 2) / 2 ≡ d = omega arith in
    let f : (2 * d + k % 2) % 2 ≡ k % 2 = omega arith in
    rw (e, f)

steep-none : (k : ℕ) → steepness_of 0 ≡ steep_of k 0
unfolding steepness_of
steep-none k = go (cardinal k)
  where
    go : (b : Bool) → 0 ≡ cond b (2 * (0 * 0)) (0 * 0)
    go true = refl
    go false = refl

pub fall-steepness : (k d : ℕ) → steepness_of (fall_of k d) ≡ steep_of k d
fall-steepness k zero = ap steepness_of (fall-none k) ∙ steep-none k
fall-steepness k (suc d) = ap steepness_of (fall-some k (suc d) (omega arith)) ∙ steepness-drop k (suc d)
