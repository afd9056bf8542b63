-- RULES 2.1: blanks and words. Assumes nothing.
use Rattle.std.specs.Prelude.{ℕ, zero, suc, ◌-◌, Bool, true, false, not, cond, ◌||◌, List, ltb, eqb, get_or, length}
use Rattle.text.specs.Reader.{Reader, got, refused}

-- Blanks are space, tab, CR, LF
abbrev pub blank : ℕ → Bool
blank b = eqb b 32 || eqb b 9 || eqb b 13 || eqb b 10

abbrev pub solid : ℕ → Bool
solid b = not (blank b)

-- the first place, of the n from i on, whose byte fails the test p; i + n where none does
unfoldable pub run : (ℕ → Bool) → List ℕ → ℕ → ℕ → ℕ
run p s i zero = i
run p s i (suc n) = elim (p (get_or s i 0)) [ true ↦ run p s (suc i) n | false ↦ i ]

-- the first byte of the next word, read from the place i; the text's length where there is none
unfoldable pub word_start : List ℕ → ℕ → ℕ
word_start s i = run blank s i (length s - i)

-- a word is a longest run of other bytes: the place after the word that begins, or goes on, at a
unfoldable pub word_end : List ℕ → ℕ → ℕ
word_end s a = run solid s a (length s - a)

-- a word: its first byte, which is its place, and the place after it
pub record Word : Type 0 where
  pub start : ℕ
  pub end : ℕ

-- Words are read left to right, each from where the last ended. 9: the text ends too early; place: text length
unfoldable pub word : Reader Word
word s i =
    let a = word_start s i in
    cond (ltb a (length s)) (got (record { start = a; end = word_end s a }) (word_end s a)) (refused 9 (length s))
