-- Laws of a call's answer and of the room: which test decides, and what comes of it. Assumes nothing.
use mathlib.Core.Path.{◌≡◌, sym, ap, ◌∙◌, subst}
use mathlib.Core.Bool.{not}
use mathlib.Core.List.{List, [], ◌∷◌, ◌++◌, map}
use Prim.Native.Nat.{ℕ, ◌+◌, ◌*◌, ◌≤◌, ◌<◌}
use native.Mathlib.Omega.{arith}
use borrow.Author.Tests.{lt-ltb, le-ltb}
use lib.IntN.{ℤ}
use lib.ListN.{length, length-append, length-map}
use Rattle.laws.specs.Tests.{passed, failed, verdict}
use Rattle.laws.proofs.Verdicts.{test-yes, test-no, verdict-none, verdict-next, verdict-stops, verdict-before, verdict-after}
use Rattle.std.specs.Prelude.{Some, None, Result, Ok, Err}
use Rattle.text.specs.declared.Refusal.{Refusal}
use Rattle.text.specs.declared.faults.Fault.{Fault}
use Rattle.text.specs.declared.faults.Fault.TheVariants.{Height, Room}
use Rattle.text.specs.Faults.{number_of, fault_of}
use Rattle.text.specs.Ranges.{first_bad, bad_cell, height_test}
use Rattle.text.proofs.FaultNumbers.{back-fault}
use Rattle.text.proofs.Accepted.{size_is, area-few, height-passes, height-fails, bad-some, bad-none}
use Rattle.numerals.specs.Writing.{overlay, Wrote}
use Rattle.numerals.proofs.Writing.{wrote_as, wrote_then}
use Rattle.writer.specs.Words.{height_word}
use Rattle.writer.specs.Text.{Frame, header_words, lines, text_of}
use Rattle.writer.specs.Answers.{room_test, frame_tests, Cells, height_cells, number_cells, judged, answer_of, room_of, answer, after}
use Rattle.writer.specs.InnerCells.{cells_from, bytes_of, good_cells}
use Rattle.writer.proofs.Accepted.{FrameAccepted, corner-short, frame-accepted}
use Rattle.writer.proofs.InnerCells.{cells-length}
use Rattle.writer.proofs.InnerRows.{text-flat}

-- what a call that is given f and c with this room promises: its answer, and what the room holds then
pub record Promised (f : Frame) (c : Cells) (room : List ℕ) (r : Result ℕ Refusal) (then : List ℕ) : Type 0 where
  pub answers : r ≡ answer f c room
  pub leaves : then ≡ after f c room

module _ (f : Frame) (c : Cells) (room : List ℕ) where
  -- a call that is refused, and one that is not
  refused : {n p : ℕ} → judged f c room ≡ failed n p → Promised f c room (Err (record { fault = fault_of n; place = p })) room
  unfolding answer answer_of after room_of
  refused e =
      record { answers = sym (ap (answer_of (text_of f c.words)) e); leaves = sym (ap (room_of (text_of f c.words) room) e) }

  accepted : judged f c room ≡ passed → Promised f c room (Ok (length (text_of f c.words))) (overlay room 0 (text_of f c.words))
  unfolding answer answer_of after room_of
  accepted e =
      record { answers = sym (ap (answer_of (text_of f c.words)) e); leaves = sym (ap (room_of (text_of f c.words) room) e) }

  -- the frame's tests decide
  pub frame-refuses : (r : Refusal) → failed (number_of r.fault) r.place ≡ verdict (frame_tests f c.number) → Promised f c room (Err r) room
  unfolding judged
  frame-refuses r e =
      subst (λ (x : Fault). Promised f c room (Err (record { fault = x; place = r.place })) room) (back-fault r.fault)
      (refused (verdict-before (frame_tests f c.number ++ c.tests) _ (verdict-before (frame_tests f c.number) c.tests (sym e))))

  module _ (frame_is : verdict (frame_tests f c.number) ≡ passed) where
    -- the tests of the numbers decide
    pub number-refuses : {n p : ℕ} → verdict c.tests ≡ failed n p → Promised f c room (Err (record { fault = fault_of n; place = p })) room
    unfolding judged
    number-refuses e =
        refused (verdict-before (frame_tests f c.number ++ c.tests) _ (verdict-after (frame_tests f c.number) c.tests frame_is ∙ e))

    module _ (numbers-are : verdict c.tests ≡ passed) where
      left-to-room : judged f c room ≡ verdict (room_test (text_of f c.words) room ∷ [])
      unfolding judged
      left-to-room = verdict-after (frame_tests f c.number ++ c.tests) _ (verdict-after (frame_tests f c.number) c.tests frame_is ∙ numbers-are)

      -- the room decides
      pub room-refuses : length room < length (text_of f c.words) → Promised f c room (Err (record { fault = Room; place = 0 })) room
      unfolding room_test fault_of
      room-refuses h =
          refused (left-to-room ∙ verdict-stops [] (test-no 13 0 (ap not (lt-ltb (length room) (length (text_of f c.words)) h))))

      pub room-passes : length (text_of f c.words) ≤ length room → judged f c room ≡ passed
      unfolding room_test
      room-passes h =
          left-to-room ∙ verdict-next [] (test-yes 13 0 (ap not (le-ltb (length room) (length (text_of f c.words)) h))) ∙ verdict-none

      -- none refuses: the header is put down, then the cells
      pub all-accept : {mid then : List ℕ} {next end : ℕ}
          → text_of f c.words ≡ lines (header_words f) ++ cells_from f.columns 0 c.words → length (text_of f c.words) ≤ length room
          → Wrote room 0 (lines (header_words f)) next mid → Wrote mid next (cells_from f.columns 0 c.words) end then
          → Promised f c room (Ok (length (text_of f c.words))) then
      all-accept e h p q =
          let a = accepted (room-passes h) in
          record { answers = a.answers; leaves = (wrote_as (sym e) (wrote_then p q)).laid ∙ a.leaves }

-- ---- what is known once the frame's tests are passed

module _ (f : Frame) (c : Cells) (long : length c.words ≡ c.number) (frame_is : verdict (frame_tests f c.number) ≡ passed) where
  known : FrameAccepted f × (c.number ≡ f.rows * f.columns)
  known = frame-accepted f c.number frame_is

  pub cells-few : c.number ≤ 1048576
  cells-few = omega (arith, known.1, area-few f.rows f.columns known.0.rows known.0.columns)

  pub columns-some : 1 ≤ f.columns
  columns-some = (size_is f.columns known.0.columns).0

  pub corners-short : (length f.x ≤ 17) × (length f.y ≤ 17)
  corners-short = (corner-short f.x known.0.x, corner-short f.y known.0.y)

  pub text-is : text_of f c.words ≡ lines (header_words f) ++ cells_from f.columns 0 c.words
  text-is = text-flat f c.words columns-some (long ∙ known.1)

  pub text-length : length (text_of f c.words) ≡ length (lines (header_words f)) + bytes_of c.words
  text-length =
      ap length text-is ∙ length-append (lines (header_words f)) (cells_from f.columns 0 c.words)
      ∙ ap (λ (k : ℕ). length (lines (header_words f)) + k) (cells-length f.columns 0 c.words)

-- ---- heights, of which the first bad one was looked for

module _ (f : Frame) (hs : List ℤ) (room : List ℕ) (frame_is : verdict (frame_tests f (length hs)) ≡ passed) where
  heights-many : length hs ≡ f.rows * f.columns
  heights-many = (frame-accepted f (length hs) frame_is).1

  heights-fail : first_bad (length hs) hs < length hs → verdict (height_cells f hs).tests ≡ failed 5 (first_bad (length hs) hs)
  unfolding height_cells
  heights-fail h =
      subst (λ (n : ℕ). verdict (height_test n hs ∷ []) ≡ failed 5 (first_bad (length hs) hs)) heights-many (verdict-stops [] (height-fails (length hs) hs h))

  heights-pass : length hs ≤ first_bad (length hs) hs → verdict (height_cells f hs).tests ≡ passed
  unfolding height_cells
  heights-pass h =
      subst (λ (n : ℕ). verdict (height_test n hs ∷ []) ≡ passed) heights-many (verdict-next [] (height-passes (length hs) hs h) ∙ verdict-none)

  pub heights-refuse : {x : ℕ} → Some x ≡ bad_cell (length hs) hs → Promised f (height_cells f hs) room (Err (record { fault = Height; place = x })) room
  unfolding height_cells fault_of
  heights-refuse b =
      let w = bad-some (length hs) hs b in
      subst (λ (x : ℕ). Promised f (height_cells f hs) room (Err (record { fault = Height; place = x })) room) (sym w.0)
      (number-refuses f (height_cells f hs) room frame_is (heights-fail (omega (arith, w.0, w.1))))

  -- heights that are good are written as any cells
  pub heights-good : {r : Result ℕ Refusal} {then : List ℕ} → None ≡ bad_cell (length hs) hs → Promised f (good_cells height_word hs) room r then
      → Promised f (height_cells f hs) room r then
  unfolding height_cells answer after
  heights-good b p =
      let h = bad-none (length hs) hs b in
      let text = text_of f (map height_word hs) in
      let same = left-to-room f (good_cells height_word hs) room frame_is verdict-none ∙ sym (left-to-room f (height_cells f hs) room frame_is (heights-pass h)) in
      record { answers = p.answers ∙ ap (answer_of text) same; leaves = p.leaves ∙ ap (room_of text room) same }

  pub heights-long : length (height_cells f hs).words ≡ (height_cells f hs).number
  unfolding height_cells
  heights-long = length-map hs height_word

-- ---- cells of which each is good

module _ {A : Type 0} (word : A → List ℕ) (cells : List A) (f : Frame) (frame_is : verdict (frame_tests f (length cells)) ≡ passed) where
  many : length (map word cells) ≡ length cells
  many = length-map cells word

  pub good-few : length cells ≤ 1048576
  good-few = cells-few f (good_cells word cells) many frame_is

  pub good-columns : 1 ≤ f.columns
  good-columns = columns-some f (good_cells word cells) many frame_is

  pub good-corners : (length f.x ≤ 17) × (length f.y ≤ 17)
  good-corners = corners-short f (good_cells word cells) many frame_is

  -- the text has n bytes
  module _ (room : List ℕ) {n : ℕ} (n_is : n ≡ length (lines (header_words f)) + bytes_of (map word cells)) where
    text_is : length (text_of f (map word cells)) ≡ n
    text_is = text-length f (good_cells word cells) many frame_is ∙ sym n_is

    pub good-refused : length room < n → Promised f (good_cells word cells) room (Err (record { fault = Room; place = 0 })) room
    good-refused h = room-refuses f (good_cells word cells) room frame_is verdict-none (omega (arith, text_is))

    pub good-accepted : {mid then : List ℕ} {next end : ℕ} → n ≤ length room → Wrote room 0 (lines (header_words f)) next mid
        → Wrote mid next (cells_from f.columns 0 (map word cells)) end then → Promised f (good_cells word cells) room (Ok n) then
    good-accepted {then = then} h p q =
        let text = text-is f (good_cells word cells) many frame_is in
        subst (λ (k : ℕ). Promised f (good_cells word cells) room (Ok k) then) text_is
        (all-accept f (good_cells word cells) room frame_is verdict-none text (omega (arith, text_is)) p q)

module _ (word : ℕ → List ℕ) (numbers : List ℕ) where
  pub numbers-long : length (number_cells word numbers).words ≡ (number_cells word numbers).number
  unfolding number_cells
  numbers-long = length-map numbers word
