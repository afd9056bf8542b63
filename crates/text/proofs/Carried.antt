-- What the values and the refusals of a reader have, carried through its steps. Assumes nothing.
use mathlib.Core.Path.{◌≡◌, refl}
use mathlib.Core.Bool.{Bool, true, false}
use mathlib.Core.List.{List}
use Prim.Native.Nat.{ℕ}
use Rattle.text.specs.Reader.{Step, Reader, got, refused, after, ◌>>=◌, give, check}

-- a value has P, and a refusal's number and place have F
abbrev pub Has : {A : Type 0} → (A → Type 0) → (ℕ → ℕ → Type 0) → Step A → Type 0
Has P F (got a i) = P a
Has P F (refused n p) = F n p

-- so has whatever the reader comes to in the text s
pub record Keeps {A : Type 0} (s : List ℕ) (P : A → Type 0) (F : ℕ → ℕ → Type 0) (r : Reader A) : Type 0 where
  pub keeps : (i : ℕ) → Has P F (r s i)

module _ {A : Type 0} where
  any_step : (t : Step A) → Has (λ (a : A). Unit) (λ (n p : ℕ). Unit) t
  any_step (got a i) = tt
  any_step (refused n p) = tt

  -- where nothing is asked, every reader has it
  pub keeps-any : {s : List ℕ} (r : Reader A) → Keeps s (λ (a : A). Unit) (λ (n p : ℕ). Unit) r
  keeps-any {s} r = record { keeps = λ i. any_step (r s i) }

  pub keeps-give : {s : List ℕ} {P : A → Type 0} {F : ℕ → ℕ → Type 0} {a : A} → P a → Keeps s P F (give a)
  keeps-give h = record { keeps = λ i. h }

pub keeps-check : {s : List ℕ} {F : ℕ → ℕ → Type 0} (b : Bool) (n p : ℕ) → F n p → Keeps s (λ (u : Unit). b ≡ true) F (check b n p)
keeps-check true n p h = record { keeps = λ i. refl }
keeps-check false n p h = record { keeps = λ i. h }

module _ {A B : Type 0} {s : List ℕ} {Q : A → Type 0} {P : B → Type 0} {F : ℕ → ℕ → Type 0} where
  has-after : (t : Step A) (f : A → Reader B) → Has Q F t → ((a : A) → Q a → Keeps s P F (f a)) → Has P F (after t f s)
  has-after (got a i) f q h = (h a q).keeps i
  has-after (refused n p) f q h = q

  -- one reader after another
  pub keeps_then : {m : Reader A} {f : A → Reader B} → Keeps s Q F m → ((a : A) → Q a → Keeps s P F (f a)) → Keeps s P F (m >>= f)
  keeps_then {m} {f} g h = record { keeps = λ i. has-after (m s i) f (g.keeps i) h }
