-- The header that the writer writes is read back: shape, cell side and NoData number, and where the corner words stand. Assumes nothing.
use mathlib.Core.Path.{◌≡◌, refl, ap, ◌∙◌}
use mathlib.Core.Bool.{true}
use mathlib.Core.List.{List, [], ◌∷◌, ◌++◌, append_assoc}
use Prim.Native.Nat.{ℕ, ◌+◌, ◌-◌, ◌≤◌, ◌<◌}
use native.Mathlib.Omega.{arith}
use lib.IntN.{pos}
use lib.ListN.{length, drop, take}
use lib.Seq.{slice, take-add, take-append_seam, drop_at, length-take-le}
use Rattle.text.specs.Bytes.{bytes}
use Rattle.text.specs.Quantities.{no_data_height}
use Rattle.text.specs.Ranges.{size_accepted, side_accepted}
use Rattle.text.specs.Reader.{Reader, got}
use Rattle.text.specs.Words.{blank, solid}
use Rattle.text.specs.Numbers.{count}
use Rattle.text.specs.Headers.{Header, named, corner, side, field, any_measure, no_data, extent, corners, side_and_no_data, head}
use Rattle.text.specs.declared.Span.{Span}
use Rattle.text.specs.declared.Corners.{Corners}
use Rattle.text.proofs.Every.{every}
use Rattle.text.proofs.Pieces.{Ahead, ahead_past, ahead_within, drop_past, field-ahead, no-data-ahead, count-ahead, number-ahead, any-measure-ahead, side-ahead}
use Rattle.text.proofs.Accepted.{size_is, side-is}
use Rattle.numerals.specs.Words.{decimal, line}
use Rattle.writer.specs.Words.{none, metres}
use Rattle.writer.specs.Text.{Frame, header_words, lines}
use Rattle.writer.proofs.Accepted.{NumberWord, word-formed, FrameAccepted}
use Rattle.writer.proofs.Digits.{count-form}
use Rattle.writer.proofs.Forms.{metres-form, none-form}

-- ---- a reader that comes to a value

-- in the text s, from the place i on, the reader gives a, and the bytes `rest` are left
pub record Reads {A : Type 0} (r : Reader A) (s : List ℕ) (i : ℕ) (a : A) (rest : List ℕ) : Type 0 where
  pub at : ℕ
  pub read : r s i ≡ got a at
  pub left : drop at s ≡ rest

-- ---- one line of the header

-- a name and its word on a line, and the rest of the text
abbrev field_line : List ℕ → List ℕ → List ℕ → List ℕ
field_line n w rest = n ++ (32 ∷ (w ++ (10 ∷ rest)))

-- the header's lines from that of the cell side, of each corner, and of the rows on, and the rest of the text
abbrev from_side : Frame → List ℕ → List ℕ
from_side f rest = field_line (bytes "cellsize") (metres (pos f.side)) (field_line (bytes "nodata_value") none rest)

abbrev from_y : Frame → List ℕ → List ℕ
from_y f rest = field_line (bytes "yllcorner") f.y (from_side f rest)

abbrev from_x : Frame → List ℕ → List ℕ
from_x f rest = field_line (bytes "xllcorner") f.x (from_y f rest)

abbrev from_rows : Frame → List ℕ → List ℕ
from_rows f rest = field_line (bytes "nrows") (decimal f.rows) (from_x f rest)

header-flat : (f : Frame) (rest : List ℕ) → lines (header_words f) ++ rest ≡ field_line (bytes "ncols") (decimal f.columns) (from_rows f rest)
unfolding lines header_words line
header-flat f rest = simp append_assoc

-- such a line stands in the text s from the place i on, after blanks
record Line (s : List ℕ) (i : ℕ) (n w rest : List ℕ) : Type 0 where
  before : List ℕ
  blanks : every blank before ≡ true
  text : drop i s ≡ before ++ field_line n w rest

-- the first line, and one that stands after another
line_first : {s n w rest : List ℕ} → s ≡ field_line n w rest → Line s 0 n w rest
line_first e = record { before = []; blanks = refl; text = e }

line-next : {s : List ℕ} {i : ℕ} {n w rest : List ℕ} → drop i s ≡ 10 ∷ field_line n w rest → Line s i n w rest
line-next e = record { before = 10 ∷ []; blanks = refl; text = e }

-- what makes a name one that the reader finds
record Name (n : List ℕ) : Type 0 where
  some : 0 < length n
  solids : every solid n ≡ true
  is : named n 0 (length n) n ≡ true

columns-name : Name (bytes "ncols")
unfolding bytes named
columns-name = record { some = omega arith; solids = refl; is = refl }

rows-name : Name (bytes "nrows")
unfolding bytes named
rows-name = record { some = omega arith; solids = refl; is = refl }

x-name : Name (bytes "xllcorner")
unfolding bytes named
x-name = record { some = omega arith; solids = refl; is = refl }

y-name : Name (bytes "yllcorner")
unfolding bytes named
y-name = record { some = omega arith; solids = refl; is = refl }

side-name : Name (bytes "cellsize")
unfolding bytes named
side-name = record { some = omega arith; solids = refl; is = refl }

none-name : Name (bytes "nodata_value")
unfolding bytes named
none-name = record { some = omega arith; solids = refl; is = refl }

module _ {s : List ℕ} {i : ℕ} {n w rest : List ℕ} (h : Line s i n w rest) where
  -- where the name ends
  abbrev named-to : ℕ
  named-to = i + length h.before + length n

  name-there : Ahead s i h.before n (32 ∷ (w ++ (10 ∷ rest)))
  name-there = record { text = h.text; blanks = h.blanks; parted = refl }

  word-there : Ahead s named-to (32 ∷ []) w (10 ∷ rest)
  word-there = record { text = ahead_past name-there; blanks = refl; parted = refl }

  line_reads : Name n → {A : Type 0} (r : Reader A) {a : A} → r s named-to ≡ got a (named-to + 1 + length w) → Reads (field n r) s i a (10 ∷ rest)
  line_reads name r e =
      record {
        at = named-to + 1 + length w;
        read = field-ahead name-there name.some name.solids n name.is r ∙ e;
        left = ahead_past word-there;
      }

count-line : {s : List ℕ} {i : ℕ} {n rest : List ℕ} (k : ℕ) → Name n → size_accepted k ≡ true → Line s i n (decimal k) rest
    → Reads (field n count) s i k (10 ∷ rest)
unfolding size_accepted
count-line k name ok h = line_reads h name count (count-ahead (word-there h) (count-form k (omega (arith, (size_is k ok).1))) ok)

side-line : {s : List ℕ} {i : ℕ} {n rest : List ℕ} (k : ℕ) → Name n → side_accepted k ≡ true → Line s i n (metres (pos k)) rest
    → Reads (field n side) s i (pos k) (10 ∷ rest)
unfolding side_accepted
side-line k name ok h = line_reads h name side (side-ahead (word-there h) (metres-form (pos k) (omega (arith, (side-is k ok).1))) refl ok)

none-line : {s : List ℕ} {i : ℕ} {rest : List ℕ} → Line s i (bytes "nodata_value") none rest → Reads no_data s i no_data_height (10 ∷ rest)
unfolding bytes
none-line {s} {i} h =
    let r = line_reads h none-name any_measure (any-measure-ahead (word-there h) none-form refl) in
    record { at = r.at; read = no-data-ahead (name-there h) none-name.some none-name.solids refl ∙ r.read; left = r.left }

-- ---- corners

-- the bytes of a text where a span says
abbrev pub cut : List ℕ → Span → List ℕ
cut s span = slice span.first (span.first + span.length) s

cut_out : (s : List ℕ) (a : ℕ) (w rest : List ℕ) → a ≤ length s → drop a s ≡ w ++ rest → slice a (a + length w) s ≡ w
cut_out s a w rest l e =
    ap (drop a) (take-add a (length w) s ∙ ap (λ (u : List ℕ). take a s ++ take (length w) u) e ∙ ap (λ (u : List ℕ). take a s ++ u) (take-append_seam w rest))
    ∙ drop_at (take a s) w a (length-take-le a s l)

-- a corner is read from a line, and its word is found again
record CornerRead (s : List ℕ) (i : ℕ) (n w rest : List ℕ) : Type 0 where
  span : Span
  reads : Reads (field n corner) s i span (10 ∷ rest)
  cuts : cut s span ≡ w

module _ {s : List ℕ} {i : ℕ} {n w rest : List ℕ} (name : Name n) (ok : NumberWord w) (h : Line s i n w rest) where
  abbrev from : ℕ
  from = named-to h + 1

  corner-line : CornerRead s i n w rest
  unfolding corner
  corner-line =
      let x = word-formed w ok in
      let there = word-there h in
      let long : from + (from + length w - from) ≡ from + length w = omega arith in
      record {
        span = record { first = from; length = from + length w - from };
        reads = line_reads h name corner (rw (number-ahead there x.1));
        cuts = rw long (cut_out s from w (10 ∷ rest) (omega (arith, ahead_within there)) (drop_past s (named-to h) (32 ∷ []) (w ++ (10 ∷ rest)) there.text));
      }

-- ---- the whole header

-- what the header of a frame says
abbrev pub frame_header : Frame → Header
frame_header f = record { rows = f.rows; columns = f.columns; side = pos f.side; no_data = no_data_height }

-- the header is read, the bytes `rest` are left after its last LF, and the corner words are found again
pub record HeadRead (f : Frame) (s rest : List ℕ) : Type 0 where
  pub spans : Corners
  pub reads : Reads head s 0 (record { header = frame_header f; corners = spans }) (10 ∷ rest)
  pub x : cut s spans.x ≡ f.x
  pub y : cut s spans.y ≡ f.y

module _ (f : Frame) (ok : FrameAccepted f) (s rest : List ℕ) (text : s ≡ lines (header_words f) ++ rest) where
  columns-back : Reads (field (bytes "ncols") count) s 0 f.columns (10 ∷ from_rows f rest)
  columns-back = count-line f.columns columns-name ok.columns (line_first (text ∙ header-flat f rest))

  rows_back : Reads (field (bytes "nrows") count) s columns-back.at f.rows (10 ∷ from_x f rest)
  rows_back = count-line f.rows rows-name ok.rows (line-next columns-back.left)

  x-back : CornerRead s rows_back.at (bytes "xllcorner") f.x (from_y f rest)
  x-back = corner-line x-name ok.x (line-next rows_back.left)

  y-back : CornerRead s x-back.reads.at (bytes "yllcorner") f.y (from_side f rest)
  y-back = corner-line y-name ok.y (line-next x-back.reads.left)

  side-back : Reads (field (bytes "cellsize") side) s y-back.reads.at (pos f.side) (10 ∷ field_line (bytes "nodata_value") none rest)
  side-back = side-line f.side side-name ok.side (line-next y-back.reads.left)

  none-back : Reads no_data s side-back.at no_data_height (10 ∷ rest)
  none-back = none-line (line-next side-back.left)

  pub head-back : HeadRead f s rest
  unfolding head extent corners side_and_no_data
  head-back =
      record {
        spans = record { x = x-back.span; y = y-back.span };
        reads =
            record {
              at = none-back.at;
              read = rw (columns-back.read, rows_back.read, x-back.reads.read, y-back.reads.read, side-back.read, none-back.read);
              left = none-back.left;
            };
        x = x-back.cuts;
        y = y-back.cuts;
      }
