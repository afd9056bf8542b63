-- RULES 2.3: right words, what can begin one, and where a word that is not right breaks: as the laws of proofs/Right.antt state the places of
-- refusals 7 and 12. A word is the list of its bytes, w. Assumes nothing.
use Rattle.std.specs.Prelude.{ℕ, ◌+◌, ◌-◌, ◌≤◌, ◌<◌, ◌≡◌, true, List, ◌++◌, length, get_or, take, set}
use Rattle.std.proofs.Math.Seq.{slice}
use Rattle.text.specs.Reader.{Step, got, refused}
use Rattle.text.specs.Words.{word_start, word_end}
use Rattle.text.specs.Numbers.{digit}
use Rattle.text.specs.declared.Span.{Span}
use Rattle.text.specs.declared.Corners.{Corners}

-- one or more digits, from the place i up to j
pub record Digits (w : List ℕ) (i j : ℕ) : Type 0 where
  pub some : i < j
  pub each : (k : ℕ) → i ≤ k → k < j → digit (get_or w k 0) ≡ true

-- an optional minus, which ends at b
pub data Sign (w : List ℕ) : ℕ → Type 0 where
  plain : Sign w 0
  minus : get_or w 0 0 ≡ 45 → Sign w 1

-- nothing more from d on, or a point and 1 to 6 digits
pub data Decimals (w : List ℕ) (d : ℕ) : Type 0 where
  none : d ≡ length w → Decimals w d
  point : get_or w d 0 ≡ 46 → Digits w (d + 1) (length w) → length w ≤ d + 7 → Decimals w d

-- A number is an optional minus, 1 to 9 digits, then optionally a point and 1 to 6 digits.
pub record RightNumber (w : List ℕ) : Type 0 where
  pub b : ℕ
  pub d : ℕ
  pub sign : Sign w b
  pub whole : Digits w b d
  pub few : d ≤ b + 9
  pub decimals : Decimals w d

-- The two counts have 1 to 9 digits only.
pub record RightCount (w : List ℕ) : Type 0 where
  pub digits : Digits w 0 (length w)
  pub few : length w ≤ 9

-- w can begin a right word: some right word begins with it
pub record CanBegin (Right : List ℕ → Type 0) (w : List ℕ) : Type 0 where
  pub rest : List ℕ
  pub right : Right (w ++ rest)

-- The word breaks at its byte k: so far it can begin a right one, but no more with that byte. Or it has k bytes, and merely stops too soon.
pub data Breaks (Right : List ℕ → Type 0) (w : List ℕ) (k : ℕ) : Type 0 where
  there : k < length w → (CanBegin Right (take (k + 1) w) → ⊥) → Breaks Right w k
  short : k ≡ length w → (Right w → ⊥) → Breaks Right w k

-- the place of refusal 7, counted from the word's first byte
pub record BreaksAt (Right : List ℕ → Type 0) (w : List ℕ) (k : ℕ) : Type 0 where
  pub before : (j : ℕ) → j ≤ k → CanBegin Right (take j w)
  pub here : Breaks Right w k

-- the place of refusal 12: the word's first comma, and with a point there the word is right
pub record CommaAt (Right : List ℕ → Type 0) (w : List ℕ) (k : ℕ) : Type 0 where
  pub inside : k < length w
  pub comma : get_or w k 0 ≡ 44
  pub first : (j : ℕ) → j < k → get_or w j 0 ≡ 44 → ⊥
  pub right : Right (set w k 46)

-- the word of a text that begins at a
abbrev pub word_at : List ℕ → ℕ → List ℕ
word_at s a = slice a (word_end s a) s

-- a right number stands there in the text
pub record NumberIn (s : List ℕ) (w : Span) : Type 0 where
  pub within : w.first + w.length ≤ length s
  pub right : RightNumber (slice w.first (w.first + w.length) s)

pub record CornersIn (s : List ℕ) (c : Corners) : Type 0 where
  pub x : NumberIn s c.x
  pub y : NumberIn s c.y

-- neither 7 nor 12
abbrev pub Neither : {A : Type 0} → Step A → Type 0
Neither (got x i) = Unit
Neither (refused n p) = (n ≡ 7 → ⊥) × (n ≡ 12 → ⊥)

-- ---- the same of a whole text: of its next word from some place i on

-- a number or a count breaks at the place p
pub data BreaksIn (s : List ℕ) (p : ℕ) : Type 0 where
  number : (i : ℕ) → word_start s i ≤ p → BreaksAt RightNumber (word_at s (word_start s i)) (p - word_start s i) → BreaksIn s p
  count : (i : ℕ) → word_start s i ≤ p → BreaksAt RightCount (word_at s (word_start s i)) (p - word_start s i) → BreaksIn s p

-- a comma decimal has its comma at the place p
pub record CommaIn (s : List ℕ) (p : ℕ) : Type 0 where
  pub i : ℕ
  pub from : word_start s i ≤ p
  pub comma : CommaAt RightNumber (word_at s (word_start s i)) (p - word_start s i)
