-- What the functions of `words` answer, in terms of the definitions, and what any reading comes to: only inner functions cite this file. Assumes nothing.
use Rattle.std.specs.Prelude.{ℕ, ◌≤◌, ◌<◌, List, length, Option, Some, None, Result, Ok, Err}
use Rattle.text.specs.Faults.{number_of}
use Rattle.text.specs.Reader.{Step, got, refused}
use Rattle.text.specs.Words as W
use Rattle.text.specs.declared.Refusal.{Refusal}
use Rattle.text.specs.declared.words.Cursor.{Cursor}
use Rattle.text.specs.declared.words.Read.{Read}
use Rattle.text.specs.declared.words.Word.{Word}

-- what was read as the step of a reading, by what its value stands for
abbrev pub step_of : {V A : Type 0} → (V → A) → Result (Read V) Refusal → Step A
step_of is (Ok x) = got (is x.value) x.rest.at
step_of is (Err f) = refused (number_of f.fault) f.place

-- the same where nothing is read but the cursor moves
abbrev pub moved_of : Result Cursor Refusal → Step Unit
moved_of (Ok k) = got tt k.at
moved_of (Err f) = refused (number_of f.fault) f.place

-- the next word as the step of a reading
abbrev pub word_of : List ℕ → Option (Read Word) → Step W.Word
word_of s (Some w) = got (record { start = w.value.start; end = w.value.end }) w.rest.at
word_of s None = refused 9 (length s)

-- a word that is found has a byte at least, and lies within a text of n bytes
abbrev pub Inside : ℕ → Option (Read Word) → Type 0
Inside n (Some w) = (w.value.start < w.value.end) × (w.value.end ≤ n)
Inside n None = Unit
