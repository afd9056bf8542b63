-- Lowering a list cell by cell until nothing can be lowered: the definition by rounds, and the states of a program that lowers in any order. Assumes nothing.
use Rattle.std.specs.Prelude.{◌≡◌, List, Bool, true, false, cond, ℕ, zero, suc, ◌≤◌, ◌<◌, min, length, get_or, set, ltb}
use Rattle.laws.specs.Lists.{tab, total}

-- size: the cells; an active cell begins at far, and any other stands at 0; offer l x is what the list l lets the active cell x stand at
pub record Lowering : Type 0 where
  pub size : ℕ
  pub far : ℕ
  pub active : ℕ → Bool
  pub offer : List ℕ → ℕ → ℕ

-- ---- the definition: rounds until one lowers nothing

abbrev pub start_of : Lowering → List ℕ
start_of w = tab w.size (λ x. cond (w.active x) w.far 0)

abbrev pub round_of : Lowering → List ℕ → List ℕ
round_of w l = tab w.size (λ x. min (get_or l x 0) (w.offer l x))

-- no more rounds than fuel
unfoldable pub settle_of : Lowering → ℕ → List ℕ → List ℕ
unfolding tab total
settle_of w zero l = l
settle_of w (suc fuel) l = let m = round_of w l in elim (ltb (total m) (total l)) [ true ↦ settle_of w fuel m | false ↦ l ]

-- each round but the last lowers the sum, so the sum is fuel enough
unfoldable pub settled_of : Lowering → List ℕ
unfolding settle_of tab total
settled_of w = settle_of w (total (start_of w)) (start_of w)

-- the list after the cell x is lowered to its offer, if that is lower
abbrev pub relaxed_of : Lowering → List ℕ → ℕ → List ℕ
relaxed_of w l x = cond (ltb (w.offer l x) (get_or l x 0)) (set l x (w.offer l x)) l

-- a list that no offer lowers
abbrev pub Still : Lowering → List ℕ → Type 0
Still w l = (x : ℕ) → w.active x ≡ true → get_or l x 0 ≤ w.offer l x

-- ---- the states on the way; P x v says that by the rules the cell x can stand at v

-- what every list on the way has
pub record Kept (w : Lowering) (P : ℕ → ℕ → Type 0) (l : List ℕ) : Type 0 where
  pub long : length l ≡ w.size
  pub capped : (x : ℕ) → get_or l x 0 ≤ w.far
  pub clear : (x : ℕ) → w.active x ≡ false → get_or l x 0 ≡ 0
  pub stands : (x : ℕ) → w.active x ≡ true → get_or l x 0 < w.far → P x (get_or l x 0)

-- what is asked of a rule: an offer from values that can stand can stand, and nothing that can stand is below a list that no offer lowers
pub record Rule (w : Lowering) (P : ℕ → ℕ → Type 0) : Type 0 where
  pub within : (x : ℕ) → w.active x ≡ true → x < w.size
  pub fair : (l : List ℕ) → Kept w P l → (x : ℕ) → w.active x ≡ true → w.offer l x < w.far → P x (w.offer l x)
  pub least : (l : List ℕ) → Kept w P l → Still w l → (x : ℕ) → w.active x ≡ true → (v : ℕ) → P x v → get_or l x 0 ≤ v

-- the list l came from l₀ by lowering
pub record Eased (w : Lowering) (P : ℕ → ℕ → Type 0) (l₀ l : List ℕ) : Type 0 where
  pub long : length l ≡ length l₀
  pub kept : Kept w P l₀ → Kept w P l

-- a sweep: from l₀ to l, the cells below x done; it has lowered some cell, or not
pub record Sweeping (w : Lowering) (P : ℕ → ℕ → Type 0) (l₀ l : List ℕ) (x : ℕ) (lowered : Bool) : Type 0 where
  pub eased : Eased w P l₀ l
  pub fell : lowered ≡ true → total l < total l₀
  pub same : lowered ≡ false → total l ≡ total l₀
  pub still : lowered ≡ false → (y : ℕ) → y < x → get_or l y 0 ≤ w.offer l y

-- sweeps until one lowers nothing: the list, and whether another is due
pub record Settling (w : Lowering) (P : ℕ → ℕ → Type 0) (l : List ℕ) (again : Bool) : Type 0 where
  pub kept : Kept w P l
  pub still : again ≡ false → Still w l
