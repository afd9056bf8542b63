-- RULES 10.1: what each call of the writer answers, and what the lent room holds afterwards. Assumes nothing.
use Rattle.std.specs.Prelude.{not, Result, Ok, Err, List, [], ◌∷◌, ◌++◌, map, ℕ, ◌*◌, ltb, ℤ, length}
use Rattle.laws.specs.Tests.{Test, passed, failed, test, verdict}
use Rattle.text.specs.declared.Refusal.{Refusal}
use Rattle.text.specs.Faults.{number_of, fault_of}
use Rattle.text.specs.Numbers.{is_number}
use Rattle.text.specs.Ranges.{size_test, length_test, side_test, height_test}
use Rattle.numerals.specs.Writing.{overlay}
use Rattle.writer.specs.Words.{height_word, count_word, factor_word, direction_word}
use Rattle.writer.specs.Text.{Frame, text_of}

-- 7: a corner word of bad form, commas too; place: 1 for x, 2 for y
unfoldable pub corner_test : ℕ → List ℕ → Test
unfolding is_number
corner_test place w = test (is_number w) 7 place

-- 13: the full text is longer than the room
unfoldable pub room_test : List ℕ → List ℕ → Test
room_test text room = test (not (ltb (length room) (length text))) 13 0

-- 1, 2, 3, then 7, of a grid of n cells
unfoldable pub frame_tests : Frame → ℕ → List Test
unfolding size_test length_test side_test corner_test
frame_tests f n =
    size_test f.rows f.columns
    ∷ length_test (f.rows * f.columns) (n ∷ [])
    ∷ side_test f.side
    ∷ corner_test 1 f.x
    ∷ corner_test 2 f.y
    ∷ []

-- what a call is given to write: how many cells, the tests of their numbers, and the word of each
pub record Cells : Type 0 where
  pub number : ℕ
  pub tests : List Test
  pub words : List (List ℕ)

-- 5, for heights only
unfoldable pub height_cells : Frame → List ℤ → Cells
unfolding height_test height_word
height_cells f heights =
    record { number = length heights; tests = height_test (f.rows * f.columns) heights ∷ []; words = map height_word heights }

-- numbers from 0 on, of which each is good and gets its word
unfoldable pub number_cells : (ℕ → List ℕ) → List ℕ → Cells
number_cells word numbers = record { number = length numbers; tests = []; words = map word numbers }

unfoldable pub count_cells : List ℕ → Cells
unfolding number_cells count_word
count_cells counts = number_cells count_word counts

unfoldable pub factor_cells : List ℕ → Cells
unfolding number_cells factor_word
factor_cells factors = number_cells factor_word factors

unfoldable pub direction_cells : List ℕ → Cells
unfolding number_cells direction_word
direction_cells directions = number_cells direction_word directions

-- the tests in order: the first that fails decides
unfoldable pub judged : Frame → Cells → List ℕ → Test
unfolding frame_tests room_test text_of verdict
judged f c room = verdict (frame_tests f c.number ++ c.tests ++ (room_test (text_of f c.words) room ∷ []))

-- The answer gives the text's length.
unfoldable pub answer_of : List ℕ → Test → Result ℕ Refusal
unfolding fault_of
answer_of text passed = Ok (length text)
answer_of text (failed number place) = Err (record { fault = fault_of number; place = place })

-- The room past the text, and at a refusal all of it, stays as it was.
unfoldable pub room_of : List ℕ → List ℕ → Test → List ℕ
room_of text room passed = overlay room 0 text
room_of text room (failed number place) = room

-- the whole of a call
unfoldable pub answer : Frame → Cells → List ℕ → Result ℕ Refusal
unfolding judged answer_of text_of
answer f c room = answer_of (text_of f c.words) (judged f c room)

unfoldable pub after : Frame → Cells → List ℕ → List ℕ
unfolding judged room_of text_of
after f c room = room_of (text_of f c.words) room (judged f c room)

-- ---- an answer as the paper's numbers, for the promises of the crates above

-- number and place, and the text's length
pub record Numbers : Type 0 where
  pub number : ℕ
  pub place : ℕ
  pub length : ℕ

-- An accepted call has number and place 0; a refusal returns number and place with every other number 0
abbrev pub told : Result ℕ Refusal → Numbers
told (Ok n) = record { number = 0; place = 0; length = n }
told (Err f) = record { number = number_of f.fault; place = f.place; length = 0 }
