-- RULES 2.5: words are judged in order, and the first fault decides. A text is the list of its bytes, and a place an
-- offset into it. Assumes nothing.
use Rattle.std.specs.Prelude.{ℕ, Bool, cond, List}

-- what reading from a place comes to: a value and the place to read on from, or a refusal's number and place
pub data Step (A : Type 0) : Type 0 where
  got : A → ℕ → Step A
  refused : ℕ → ℕ → Step A

abbrev pub Reader : Type 0 → Type 0
Reader A = List ℕ → ℕ → Step A

abbrev pub after : {A B : Type 0} → Step A → (A → Reader B) → List ℕ → Step B
after (got a i) f s = f a s i
after (refused n p) f s = refused n p

-- one reader, and then the next from where the first ended
infixl 20 ◌>>=◌ ◌>>◌
abbrev pub ◌>>=◌ : {A B : Type 0} → Reader A → (A → Reader B) → Reader B
◌>>=◌ m f s i = after (m s i) f s

abbrev pub ◌>>◌ : {A B : Type 0} → Reader A → Reader B → Reader B
◌>>◌ m k = m >>= (λ a. k)

abbrev pub give : {A : Type 0} → A → Reader A
give a s i = got a i

-- the place that reading has come to
abbrev pub here : Reader ℕ
here s i = got i i

-- a test with the number and the place of the refusal where it fails
abbrev pub check : Bool → ℕ → ℕ → Reader Unit
check ok n p s i = cond ok (got tt i) (refused n p)
