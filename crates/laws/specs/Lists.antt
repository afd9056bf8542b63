-- Lists by index: a function's values as a list, the sum of a list, and agreement with a function up to a place. Assumes nothing.
use Rattle.std.specs.Prelude.{◌≡◌, List, [], ◌∷◌, ℕ, zero, suc, ◌+◌, ◌<◌, get_or}

-- f at the n places from i on
unfoldable pub from : {A : Type 0} → (ℕ → A) → ℕ → ℕ → List A
from f i zero = []
from f i (suc n) = f i ∷ from f (suc i) n

-- f 0, f 1, .. f (n - 1)
unfoldable pub tab : {A : Type 0} → ℕ → (ℕ → A) → List A
unfolding from
tab n f = from f 0 n

unfoldable pub total : List ℕ → ℕ
total [] = 0
total (x ∷ l) = x + total l

-- the list has f's values below i
abbrev pub Agrees : {A : Type 0} → (ℕ → A) → A → List A → ℕ → Type 0
Agrees f d l i = (j : ℕ) → j < i → get_or l j d ≡ f j
