-- RULES 10.4: how long a text can be, so that every text of a shape fits a room of 114 bytes and 12 for each cell. Assumes nothing.
use mathlib.Core.Path.{◌≡◌, refl, sym, ap, ap₂, ◌∙◌, subst}
use mathlib.Core.Bool.{Bool, true, false, not, cond, ◌&&◌, ◌||◌}
use mathlib.Core.List.{List, [], ◌∷◌, ◌++◌, map}
use Prim.Native.Nat.{ℕ, suc, ◌+◌, ◌*◌, ◌/◌, ◌≤◌, ◌<◌}
use native.Mathlib.Omega.{arith}
use native.Mathlib.Decide.{ℕ_discrete, dec_lt}
use lib.Dec.{ltb}
use lib.IntN.{ℤ, pos, negsuc, nat_abs}
use lib.ListN.{length, get_or}
use Rattle.laws.specs.Tests.{Test, passed, failed, test, verdict}
use Rattle.laws.proofs.Tests.{and-false-right}
use Rattle.laws.proofs.Verdicts.{passed-failed, verdict-passed, verdict-before, verdict-after}
use Rattle.text.specs.Heights.{same}
use Rattle.text.specs.Quantities.{no_data_height, height_in}
use Rattle.text.specs.Numbers.{is_number}
use Rattle.text.specs.Ranges.{size_accepted, side_accepted, all_long, first_bad, height_accepted, size_test, length_test, side_test, height_test}
use Rattle.text.proofs.Accepted.{size_is, side-is, height-passed}
use Rattle.numerals.proofs.Decimal.{decimal-short, fixed-length}
use Rattle.writer.specs.Words.{none, metres, height_word, count_word, factor_word, direction_word}
use Rattle.writer.specs.Text.{Frame, frame, header_words, lines, text_of}
use Rattle.writer.specs.Answers.{corner_test, frame_tests, Cells, height_cells, number_cells, count_cells, factor_cells, direction_cells, judged}
use Rattle.writer.specs.Rooms.{room_for, EachBelow, Holds}
use Rattle.writer.specs.InnerCells.{bytes_of}
use Rattle.writer.proofs.Accepted.{FrameAccepted, corner-short, frame-accepted}
use Rattle.writer.proofs.Forms.{height-small}
use Rattle.writer.proofs.InnerWords.{none-length, count_none, count-some, factor-none, factor-some, direction-none, direction-some}
use Rattle.writer.proofs.InnerHeader.{header-length}
use Rattle.writer.proofs.InnerAnswers.{room-passes, text-length, heights-long, numbers-long}

-- ---- how long the words are

header-short : (f : Frame) → FrameAccepted f → length (lines (header_words f)) ≤ 114
header-short f a =
    let side = side-is f.side a.side in
    omega (
      arith,
      header-length f,
      decimal-short 3 f.columns (omega (arith, (size_is f.columns a.columns).1)),
      decimal-short 3 f.rows (omega (arith, (size_is f.rows a.rows).1)),
      corner-short f.x a.x,
      corner-short f.y a.y,
      fixed-length 2 f.side,
      decimal-short 3 (f.side / 100) (omega (arith, side.1)),
    )

-- so many cm, of at most seven digits
metres-short : (z : ℤ) → nat_abs z ≤ 900000 → length (metres z) ≤ 11
unfolding metres
metres-short (pos n) h = omega (arith, fixed-length 2 n, decimal-short 3 (n / 100) (omega arith))
metres-short (negsuc n) h = omega (arith, fixed-length 2 (suc n), decimal-short 3 (suc n / 100) (omega arith))

height-short : (z : ℤ) → height_accepted z ≡ true → length (height_word z) ≤ 11
unfolding height_accepted height_word
height-short z = go (same z no_data_height)
  where
    go : (t : Bool) → (t || height_in z) ≡ true → length (cond t none (metres z)) ≤ 11
    go true e = omega (arith, none-length)
    go false e = metres-short z (height-small z e)

count-short : (n : ℕ) → n < 4294967296 → length (count_word n) ≤ 11
count-short n h =
    elim (ℕ_discrete n 0) [
      | yes e ↦ omega (arith, ap length (count_none n e), none-length)
      | no d ↦ omega (arith, ap length (count-some n d), decimal-short 9 n (omega arith))
    ]

factor-short : (n : ℕ) → n < 4294967296 → length (factor_word n) ≤ 11
factor-short n h =
    elim (dec_lt n 4294967294) [
      | yes l ↦ omega (arith, ap length (factor-some n l), fixed-length 5 n, decimal-short 4 (n / 100000) (omega arith))
      | no f ↦ omega (arith, ap length (factor-none n (omega arith) h), none-length)
    ]

direction-short : (code : ℕ) → code < 256 → length (direction_word code) ≤ 11
direction-short code h =
    elim (ℕ_discrete code 255) [
      | yes e ↦ omega (arith, ap length (direction-none code e), none-length)
      | no d ↦ omega (arith, ap length (direction-some code d), decimal-short 2 code (omega arith))
    ]

bytes-short : {A : Type 0} (w : A → List ℕ) (d : A) (cells : List A) → ((k : ℕ) → k < length cells → length (w (get_or cells k d)) ≤ 11)
    → bytes_of (map w cells) ≤ 12 * length cells
unfolding bytes_of
bytes-short w d [] h = omega arith
bytes-short w d (c ∷ cells) h = omega (arith, h 0 (omega arith), bytes-short w d cells (λ k l. h (suc k) (omega arith)))

-- ---- only the room's own test refuses with 13

abbrev Other : Test → Type 0
Other passed = Unit
Other (failed number place) = number ≡ 13 → ⊥

test-other : (ok : Bool) (number place : ℕ) → (number ≡ 13 → ⊥) → Other (test ok number place)
test-other true number place h = tt
test-other false number place h = h

-- so does no list of such tests
abbrev AllOther : List Test → Type 0
AllOther [] = Unit
AllOther (t ∷ l) = Other t × AllOther l

verdict-other : (l : List Test) → AllOther l → Other (verdict l)
unfolding verdict
verdict-other [] o = tt
verdict-other (passed ∷ l) o = verdict-other l o.1
verdict-other (failed number place ∷ l) o = o.0

frame-other : (f : Frame) (n : ℕ) → Other (verdict (frame_tests f n))
unfolding frame_tests size_test length_test side_test corner_test
frame-other f n =
    verdict-other (frame_tests f n) (
      test-other (size_accepted f.rows && size_accepted f.columns) 1 0 (λ e. omega arith),
      (
        test-other (all_long (f.rows * f.columns) (n ∷ [])) 2 0 (λ e. omega arith),
        (
          test-other (side_accepted f.side) 3 0 (λ e. omega arith),
          (
            test-other (is_number f.x) 7 1 (λ e. omega arith),
            (
              test-other (is_number f.y) 7 2 (λ e. omega arith),
              tt,
            ),
          ),
        ),
      ),
    )

heights-other : (f : Frame) (hs : List ℤ) → Other (verdict (height_cells f hs).tests)
unfolding height_cells height_test
heights-other f hs =
    let n = f.rows * f.columns in
    verdict-other (height_test n hs ∷ []) (test-other (not (ltb (first_bad n hs) n)) 5 (first_bad n hs) (λ e. omega arith), tt)

numbers-other : (word : ℕ → List ℕ) (numbers : List ℕ) → Other (verdict (number_cells word numbers).tests)
unfolding number_cells
numbers-other word numbers = verdict-other [] tt

-- a test that fails otherwise is not refused with 13
failed-other : (t : Test) {n p : ℕ} → Other t → t ≡ failed n p → n ≡ 13 → ⊥
failed-other passed o e h = passed-failed e
failed-other (failed m q) {n} o e h = let z : m ≡ n = cc in o (z ∙ h)

module _ (f : Frame) (c : Cells) (room : List ℕ) (other : Other (verdict c.tests))
    (fits : verdict (frame_tests f c.number) ≡ passed → verdict c.tests ≡ passed → length (text_of f c.words) ≤ length room) where
  never-13 : judged f c room ≡ failed 13 0 → ⊥
  unfolding judged
  never-13 e = first (verdict (frame_tests f c.number)) refl
    where
      is-13 : {n p : ℕ} → judged f c room ≡ failed n p → n ≡ 13
      is-13 {n} {p} q = let z : failed n p ≡ failed 13 0 = sym q ∙ e in cc

      second : verdict (frame_tests f c.number) ≡ passed → (t : Test) → verdict c.tests ≡ t → ⊥
      second p passed q = passed-failed (sym (room-passes f c room p q (fits p q)) ∙ e)
      second p (failed n k) q =
          failed-other (verdict c.tests) other q
          (is-13 (verdict-before (frame_tests f c.number ++ c.tests) _ (verdict-after (frame_tests f c.number) c.tests p ∙ q)))

      first : (t : Test) → verdict (frame_tests f c.number) ≡ t → ⊥
      first passed p = second p (verdict c.tests) refl
      first (failed n k) p =
          failed-other (verdict (frame_tests f c.number)) (frame-other f c.number) p
          (is-13 (verdict-before (frame_tests f c.number ++ c.tests) _ (verdict-before (frame_tests f c.number) c.tests p)))

-- ---- a room of n bytes

module _ (rows columns n : ℕ) (big : size_accepted rows ≡ true → size_accepted columns ≡ true → 114 + 12 * (rows * columns) ≤ n) where
  -- so many bytes for the cells are enough
  fits-with : (f : Frame) (c : Cells) (room : List ℕ) → f.rows ≡ rows → f.columns ≡ columns → n ≤ length room → length c.words ≡ c.number
      → verdict (frame_tests f c.number) ≡ passed → bytes_of c.words ≤ 12 * c.number → length (text_of f c.words) ≤ length room
  fits-with f c room er ec h long p short =
      let a = frame-accepted f c.number p in
      let r = subst (λ (k : ℕ). size_accepted k ≡ true) er a.0.rows in
      let l = subst (λ (k : ℕ). size_accepted k ≡ true) ec a.0.columns in
      let many : c.number ≡ rows * columns = a.1 ∙ ap₂ ◌*◌ er ec in
      omega (arith, text-length f c long p, header-short f a.0, short, many, big r l, h)

  heights-hold : (side : ℕ) (x y : List ℕ) (hs : List ℤ) (room : List ℕ) → n ≤ length room
      → judged (frame rows columns side x y) (height_cells (frame rows columns side x y) hs) room ≡ failed 13 0 → ⊥
  unfolding height_cells
  heights-hold side x y hs room h =
      let f = frame rows columns side x y in
      never-13 f (height_cells f hs) room (heights-other f hs) (λ p q.
      let many = (frame-accepted f (length hs) p).1 in
      let each = height-passed (rows * columns) hs (verdict-passed (height_test (rows * columns) hs) [] q).0 in
      fits-with f (height_cells f hs) room refl refl h (heights-long f hs room p) p
      (bytes-short height_word no_data_height hs (λ k l. height-short (get_or hs k no_data_height) (each k (omega (arith, l, many))))))

  -- numbers below b, whose words are short
  numbers-hold : (b : ℕ) (word : ℕ → List ℕ) → ((i : ℕ) → i < b → length (word i) ≤ 11) → (side : ℕ) (x y numbers room : List ℕ)
      → EachBelow b numbers → n ≤ length room → judged (frame rows columns side x y) (number_cells word numbers) room ≡ failed 13 0 → ⊥
  unfolding number_cells
  numbers-hold b word short side x y numbers room w h =
      let f = frame rows columns side x y in
      never-13 f (number_cells word numbers) room (numbers-other word numbers) (λ p q.
      fits-with f (number_cells word numbers) room refl refl h (numbers-long word numbers) p
      (bytes-short word 0 numbers (λ k l. short (get_or numbers k 0) (w k l))))

  pub room-holds : Holds rows columns n
  unfolding count_cells factor_cells direction_cells
  room-holds =
      record {
        heights = heights-hold;
        counts = numbers-hold 4294967296 count_word count-short;
        factors = numbers-hold 4294967296 factor_word factor-short;
        directions = numbers-hold 256 direction_word direction-short;
      }

-- ---- what the call finds of the shape

module _ (rows columns : ℕ) where
  pub room-for : size_accepted rows ≡ true → size_accepted columns ≡ true → room_for rows columns ≡ 114 + 12 * (rows * columns)
  unfolding room_for
  room-for r c = rw (r, c) refl

  pub no_rows : size_accepted rows ≡ false → room_for rows columns ≡ 0
  unfolding room_for
  no_rows e = rw e refl

  pub no-columns : size_accepted columns ≡ false → room_for rows columns ≡ 0
  unfolding room_for
  no-columns e = ap (λ (b : Bool). cond b (114 + 12 * (rows * columns)) 0) (sym (and-false-right (size_accepted rows) (size_accepted columns) e))
