-- Laws of the tests of a frame: what each decides where those before it are passed. Assumes nothing.
use mathlib.Core.Path.{◌≡◌, refl, sym, ap₂, ◌∙◌}
use mathlib.Core.Bool.{true, false, ◌&&◌}
use mathlib.Core.List.{List, [], ◌∷◌}
use Prim.Native.Nat.{ℕ, ◌*◌}
use borrow.Author.Tests.{eq-eqb, ne_eqb}
use lib.Dec.{eqb}
use Rattle.laws.specs.Tests.{Test, passed, failed, verdict}
use Rattle.laws.proofs.Tests.{and-false-left}
use Rattle.laws.proofs.Verdicts.{test-yes, test-no, verdict-none, verdict-next, verdict-stops}
use Rattle.text.specs.Numbers.{is_number}
use Rattle.text.specs.Ranges.{size_accepted, side_accepted, all_long, length_test, side_test}
use Rattle.text.proofs.Accepted.{size-passes, rows-fail, columns-fail, lengths-pass, lengths-fail, side-passes, side-fails}
use Rattle.writer.specs.Text.{frame}
use Rattle.writer.specs.Answers.{corner_test, frame_tests}

-- ---- one test

long-is : (n cells : ℕ) → cells ≡ n → length_test n (cells ∷ []) ≡ passed
unfolding all_long
long-is n cells e = lengths-pass n (cells ∷ []) (ap₂ ◌&&◌ (eq-eqb cells n e) refl)

long-not : (n cells : ℕ) → (cells ≡ n → ⊥) → length_test n (cells ∷ []) ≡ failed 2 0
unfolding all_long
long-not n cells d = lengths-fail n (cells ∷ []) (sym (and-false-left (eqb cells n) true (ne_eqb cells n d)))

corner-passes : (place : ℕ) (w : List ℕ) → is_number w ≡ true → corner_test place w ≡ passed
unfolding corner_test
corner-passes place w e = test-yes 7 place e

corner-fails : (place : ℕ) (w : List ℕ) → is_number w ≡ false → corner_test place w ≡ failed 7 place
unfolding corner_test
corner-fails place w e = test-no 7 place e

-- ---- all of them, in order

module _ (rows columns side : ℕ) (x y : List ℕ) (cells : ℕ) where
  abbrev decided : Test
  decided = verdict (frame_tests (frame rows columns side x y) cells)

  pub rows-refused : size_accepted rows ≡ false → decided ≡ failed 1 0
  unfolding frame_tests
  rows-refused e = verdict-stops _ (rows-fail rows columns e)

  pub columns-refused : size_accepted columns ≡ false → decided ≡ failed 1 0
  unfolding frame_tests
  columns-refused e = verdict-stops _ (columns-fail rows columns e)

  module _ (r : size_accepted rows ≡ true) (c : size_accepted columns ≡ true) where
    after-size : decided
        ≡ verdict (length_test (rows * columns) (cells ∷ []) ∷ side_test side ∷ corner_test 1 x ∷ corner_test 2 y ∷ [])
    unfolding frame_tests
    after-size = verdict-next _ (size-passes rows columns r c)

    pub cells-refused : (cells ≡ rows * columns → ⊥) → decided ≡ failed 2 0
    cells-refused d = after-size ∙ verdict-stops _ (long-not (rows * columns) cells d)

    module _ (n : cells ≡ rows * columns) where
      after-cells : decided ≡ verdict (side_test side ∷ corner_test 1 x ∷ corner_test 2 y ∷ [])
      after-cells = after-size ∙ verdict-next _ (long-is (rows * columns) cells n)

      pub side-refused : side_accepted side ≡ false → decided ≡ failed 3 0
      side-refused e = after-cells ∙ verdict-stops _ (side-fails side e)

      module _ (s : side_accepted side ≡ true) where
        after-side : decided ≡ verdict (corner_test 1 x ∷ corner_test 2 y ∷ [])
        after-side = after-cells ∙ verdict-next _ (side-passes side s)

        pub x-refused : is_number x ≡ false → decided ≡ failed 7 1
        x-refused e = after-side ∙ verdict-stops _ (corner-fails 1 x e)

        module _ (p : is_number x ≡ true) where
          after-x : decided ≡ verdict (corner_test 2 y ∷ [])
          after-x = after-side ∙ verdict-next _ (corner-passes 1 x p)

          pub y-refused : is_number y ≡ false → decided ≡ failed 7 2
          y-refused e = after-x ∙ verdict-stops _ (corner-fails 2 y e)

          pub frame-passed : is_number y ≡ true → decided ≡ passed
          frame-passed e = after-x ∙ verdict-next _ (corner-passes 2 y e) ∙ verdict-none
