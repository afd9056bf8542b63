-- RULES 10: a text whose words are read as heights is read back, and two such texts differ where frame or heights do. Assumes nothing.
use mathlib.Core.Path.{◌≡◌, refl, sym, ap, ap₂, ◌∙◌}
use mathlib.Core.List.{List, ◌++◌}
use Prim.Native.Nat.{ℕ, ◌*◌}
use lib.IntN.{ℤ, nat_abs}
use lib.ListN.{length}
use Rattle.text.specs.Headers.{header}
use Rattle.text.specs.Heights.{grid}
use Rattle.text.specs.Answers.{Outcome, GridOutcome, accepted, header_answer, corners_answer, grid_answer}
use Rattle.text.proofs.Accepted.{size_is}
use Rattle.writer.specs.Text.{Frame, frame, header_words, lines, text_of}
use Rattle.writer.specs.InnerCells.{cells_from}
use Rattle.writer.proofs.Accepted.{FrameAccepted}
use Rattle.writer.proofs.InnerRows.{text-flat}
use Rattle.writer.proofs.HeightsBack.{EachReadAs, as_many, body_back}
use Rattle.writer.proofs.HeaderBack.{cut, frame_header, HeadRead, head-back}

-- a frame that is accepted, and a word for each cell, which is read as the height beside it
pub record Readable (f : Frame) (words : List (List ℕ)) (hs : List ℤ) : Type 0 where
  pub frame : FrameAccepted f
  pub cells : length hs ≡ f.rows * f.columns
  pub each : EachReadAs words hs

module _ {f : Frame} {words : List (List ℕ)} {hs : List ℤ} (ok : Readable f words hs) where
  -- the part of the text after the header: the cells one after the other
  abbrev cells_of : List ℕ
  cells_of = cells_from f.columns 0 words

  text-is : text_of f words ≡ lines (header_words f) ++ cells_of
  text-is = text-flat f words (size_is f.columns ok.frame.columns).0 (as_many ok.each ∙ ok.cells)

  head-is : HeadRead f (text_of f words) cells_of
  head-is = head-back f ok.frame (text_of f words) cells_of text-is

  -- The header call answers the same rows, columns and cell side, and NoData number -999,900 cm.
  pub header-back : header_answer (text_of f words) ≡ accepted (frame_header f)
  unfolding header
  header-back = rw head-is.reads.read

  -- It tells where the corner words stand: the same words, byte by byte.
  pub corners-back : (cut (text_of f words) (corners_answer (text_of f words)).x ≡ f.x) × (cut (text_of f words) (corners_answer (text_of f words)).y ≡ f.y)
  corners-back = rw head-is.reads.read (head-is.x, head-is.y)

  -- The other call answers the same, and the heights that were lent become those of the words.
  pub grid-back : (lent : List ℤ) → length lent ≡ f.rows * f.columns
      → grid_answer lent (text_of f words) ≡ record { answer = accepted (frame_header f); heights = hs }
  unfolding grid header
  grid-back lent long =
      let r = head-is.reads in
      let b = body_back f.columns (text_of f words) (frame_header f) words hs r.at refl ok.cells ok.each r.left in
      rw (long ∙ sym ok.cells, r.read, b.1)

frame-equal : (f g : Frame) → f.rows ≡ g.rows → f.columns ≡ g.columns → f.side ≡ g.side → f.x ≡ g.x → f.y ≡ g.y → f ≡ g
frame-equal f g r c s x y =
    let e : frame f.rows f.columns f.side f.x f.y ≡ frame g.rows g.columns g.side g.x g.y = cc in e

-- Two such texts are the same only where shape, side, corner words and heights are.
module _ {f g : Frame} {ws vs : List (List ℕ)} {hs ks : List ℤ} where
  pub same_text : Readable f ws hs → Readable g vs ks → text_of f ws ≡ text_of g vs → (f ≡ g) × (hs ≡ ks)
  same_text p q e =
      let head : accepted (frame_header f) ≡ accepted (frame_header g) = sym (header-back p) ∙ ap header_answer e ∙ header-back q in
      let u = corners-back p in
      let v = corners-back q in
      let rows : f.rows ≡ g.rows = ap (λ (o : Outcome). o.rows) head in
      let columns : f.columns ≡ g.columns = ap (λ (o : Outcome). o.columns) head in
      let side : f.side ≡ g.side = ap (λ (o : Outcome). nat_abs o.side) head in
      let x = sym u.0 ∙ ap (λ (t : List ℕ). cut t (corners_answer t).x) e ∙ v.0 in
      let y = sym u.1 ∙ ap (λ (t : List ℕ). cut t (corners_answer t).y) e ∙ v.1 in
      let long : length hs ≡ g.rows * g.columns = p.cells ∙ ap₂ ◌*◌ rows columns in
      let grids = sym (grid-back p hs p.cells) ∙ ap (grid_answer hs) e ∙ grid-back q hs long in
      (frame-equal f g rows columns side x y, ap (λ (o : GridOutcome). o.heights) grids)
