-- Laws of tests, and of tests that are joined by `&&` and `||`. Assumes nothing.
use mathlib.Core.Path.{◌≡◌, sym, refl, ◌∙◌}
use mathlib.Core.Bool.{Bool, true, false, ◌&&◌, ◌||◌, true≢false}
use mathlib.Core.Logic.{◌⊎◌, inl, inr}

-- a test holds or fails
pub two : (b : Bool) → (b ≡ true) ⊎ (b ≡ false)
two true = inl refl
two false = inr refl

pub and-false-left : (a b : Bool) → a ≡ false → false ≡ a && b
and-false-left a b h = rw h

pub and-true-left : (a b : Bool) → a ≡ true → b ≡ a && b
and-true-left a b h = rw h

pub and-false-right : (a b : Bool) → b ≡ false → false ≡ a && b
and-false-right true b h = sym h
and-false-right false b h = refl

pub and-true-right : (a b : Bool) → b ≡ true → a ≡ a && b
and-true-right true b h = sym h
and-true-right false b h = refl

pub and_both : (a b : Bool) → (a && b) ≡ true → (a ≡ true) × (b ≡ true)
and_both true b e = (refl, e)
and_both false b e = absurd (true≢false (sym e))

-- a flag that one arm of a branch sets, and the other keeps
pub or_set : (b b' r : Bool) → b' ≡ true → r ≡ true → b' ≡ b || r
or_set true b' r e q = e
or_set false b' r e q = e ∙ sym q

pub or-keep : (b b' r : Bool) → b' ≡ b → r ≡ false → b' ≡ b || r
or-keep true b' r e q = e
or-keep false b' r e q = e ∙ sym q
