-- RULES 10: what is written and read again is the same, and grids that differ never have the same text. Assumes nothing.
use mathlib.Core.Path.{◌≡◌, sym, ap, ◌∙◌, subst}
use mathlib.Core.Bool.{not}
use mathlib.Core.List.{List, [], ◌∷◌, ◌++◌, map, map-id}
use Prim.Native.Nat.{ℕ, ◌*◌, ◌≤◌}
use native.Mathlib.Nat.{zero-add}
use native.Mathlib.Omega.{arith}
use borrow.Author.Tests.{ltb-false, not-true}
use lib.Dec.{ltb}
use lib.IntN.{ℤ}
use lib.ListN.{length, get_or, drop, length-map, get_or-map}
use lib.Seq.{sets-eq, ext_get_or}
use Rattle.laws.specs.Tests.{passed}
use Rattle.laws.proofs.Verdicts.{test-passed, verdict-passed, verdict-parts}
use Rattle.text.specs.Quantities.{no_data_height}
use Rattle.text.specs.Answers.{accepted, header_answer, corners_answer, grid_answer}
use Rattle.writer.specs.Words.{height_word, direction_word}
use Rattle.writer.specs.Text.{Frame, text_of}
use Rattle.writer.specs.Answers.{room_test, frame_tests, Cells, height_cells, number_cells, direction_cells, judged, room_of, after}
use Rattle.writer.proofs.Accepted.{HeightsAccepted, DirectionsAccepted}
use Rattle.writer.proofs.WordsBack.{height-back, code_height, direction-back, code-height-one}
use Rattle.writer.proofs.HeightsBack.{EachReadAs, each_read}
use Rattle.writer.proofs.HeaderBack.{cut, frame_header}
use Rattle.writer.proofs.TextBack.{Readable, header-back, corners-back, grid-back, same_text}

-- ---- heights

-- the text of a frame and heights, as the call writes it
abbrev pub written : Frame → List ℤ → List ℕ
written f hs = text_of f (height_cells f hs).words

-- The frame and the heights are ones that the call does not refuse: heights-accepted of Accepted.antt.
module _ (f : Frame) (hs : List ℤ) (ok : HeightsAccepted f hs) where
  heights-readable : Readable f (height_cells f hs).words hs
  unfolding height_cells
  heights-readable =
      let each = each_read height_word (λ (z : ℤ). z) no_data_height hs (λ k l. height-back (get_or hs k no_data_height) (ok.each k l)) in
      record { frame = ok.frame; cells = ok.cells; each = subst (EachReadAs (map height_word hs)) (map-id hs) each }

  -- The header call answers the same rows, columns and cell side, and NoData number -999,900 cm.
  pub read-back-header : header_answer (written f hs) ≡ accepted (frame_header f)
  read-back-header = header-back heights-readable

  -- It tells where the corner words stand: the same words, byte by byte.
  pub read-back-corners : (cut (written f hs) (corners_answer (written f hs)).x ≡ f.x) × (cut (written f hs) (corners_answer (written f hs)).y ≡ f.y)
  read-back-corners = corners-back heights-readable

  -- The other call answers the same, and the heights that were lent become the heights that were written.
  pub read-back-heights : (lent : List ℤ) → length lent ≡ f.rows * f.columns
      → grid_answer lent (written f hs) ≡ record { answer = accepted (frame_header f); heights = hs }
  read-back-heights = grid-back heights-readable

-- Two height grids that differ in shape, side, corner words or heights never have the same text.
pub never-same : (f g : Frame) (hs ks : List ℤ) → HeightsAccepted f hs → HeightsAccepted g ks → written f hs ≡ written g ks → (f ≡ g) × (hs ≡ ks)
never-same f g hs ks p q = same_text (heights-readable f hs p) (heights-readable g ks q)

-- ---- directions

-- the text of a frame and directions, as the call writes it
abbrev pub directions_written : Frame → List ℕ → List ℕ
directions_written f directions = text_of f (direction_cells directions).words

-- The frame and the directions are ones that the call does not refuse: directions-accepted of Accepted.antt.
module _ (f : Frame) (directions : List ℕ) (ok : DirectionsAccepted f directions) where
  directions-readable : Readable f (direction_cells directions).words (map code_height directions)
  unfolding direction_cells number_cells
  directions-readable =
      record {
        frame = ok.frame;
        cells = length-map directions code_height ∙ ok.cells;
        each = each_read direction_word code_height 0 directions (λ k l. direction-back (get_or directions k 0) (ok.each k l));
      }

  -- The header call answers the same rows, columns and cell side, and NoData number -999,900 cm; it tells where the same corner words stand.
  pub read-back-directions-header : header_answer (directions_written f directions) ≡ accepted (frame_header f)
  read-back-directions-header = header-back directions-readable

  pub read-back-directions-corners : let t = directions_written f directions in
      (cut t (corners_answer t).x ≡ f.x) × (cut t (corners_answer t).y ≡ f.y)
  read-back-directions-corners = corners-back directions-readable

  -- The other call gives NoData where a direction is 255, and elsewhere the direction's code in metres.
  pub read-back-directions : (lent : List ℤ) → length lent ≡ f.rows * f.columns
      → grid_answer lent (directions_written f directions) ≡ record { answer = accepted (frame_header f); heights = map code_height directions }
  read-back-directions = grid-back directions-readable

-- Two direction grids that differ in shape, side, corner words or directions never have the same text.
pub never-same-directions : (f g : Frame) (ds es : List ℕ) → DirectionsAccepted f ds → DirectionsAccepted g es
    → directions_written f ds ≡ directions_written g es → (f ≡ g) × (ds ≡ es)
never-same-directions f g ds es p q e =
    let same = same_text (directions-readable f ds p) (directions-readable g es q) e in
    let long : length ds ≡ length es = sym (length-map ds code_height) ∙ ap length same.1 ∙ length-map es code_height in (
      same.0,
      ext_get_or 0 ds es long (λ k l.
          code-height-one (get_or ds k 0) (get_or es k 0) (p.each k l) (q.each k (omega arith))
          (sym (get_or-map code_height ds k 0) ∙ ap (λ (hs : List ℤ). get_or hs k (code_height 0)) same.1 ∙ get_or-map code_height es k 0)),
    )

-- ---- the room

-- A call that is not refused leaves the text in the room, and past it what was there before.
module _ (f : Frame) (c : Cells) (room : List ℕ) (e : judged f c room ≡ passed) where
  fits : length (text_of f c.words) ≤ length room
  unfolding judged room_test
  fits =
      let t = text_of f c.words in
      let w = (verdict-parts (frame_tests f c.number ++ c.tests) (room_test t room ∷ []) e).1 in
      let k = test-passed (not (ltb (length room) (length t))) 13 0 (verdict-passed (room_test t room) [] w).0 in
      omega (arith, ltb-false (length room) (length t) (not-true (ltb (length room) (length t)) k))

  pub room_after : after f c room ≡ text_of f c.words ++ drop (length (text_of f c.words)) room
  unfolding after room_of
  room_after =
      let t = text_of f c.words in
      ap (room_of t room) e ∙ sets-eq t room 0 (omega (arith, fits)) ∙ ap (λ (k : ℕ). t ++ drop k room) (zero-add (length t))
