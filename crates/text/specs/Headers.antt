-- RULES 2.2: the header. Assumes nothing.
use Rattle.std.specs.Prelude.{ℕ, suc, ◌+◌, ◌-◌, ◌*◌, Bool, true, false, cond, ◌&&◌, List, [], ◌∷◌, leb, ltb, eqb, ℤ, pos, neg_ℤ, get_or, length}
use Rattle.text.specs.Bytes.{bytes}
use Rattle.text.specs.Quantities.{side_in}
use Rattle.text.specs.Reader.{Reader, got, ◌>>=◌, ◌>>◌, give, here, check}
use Rattle.text.specs.Words.{word_start, Word, word}
use Rattle.text.specs.Numbers.{count, number, measure}
use Rattle.text.specs.declared.Span.{Span}
use Rattle.text.specs.declared.Corners.{Corners}

-- Letter case is ignored.
abbrev pub lower : ℕ → ℕ
lower b = cond (leb 65 b && leb b 90) (b + 32) b

-- the bytes from a up to e are those of the name, but for letter case
unfoldable pub named : List ℕ → ℕ → ℕ → List ℕ → Bool
named s a e [] = eqb a e
named s a e (x ∷ xs) = ltb a e && eqb (lower (get_or s a 0)) x && named s (suc a) e xs

abbrev pub is_named : List ℕ → Word → Reader Bool
is_named n w s i = got (named s w.start w.end n) i

-- 9, then 6: header word not the expected one
unfoldable pub name : List ℕ → Reader Unit
name n = do
  w ← word
  ok ← is_named n w
  check ok 6 w.start

-- Corner numbers are checked for form only; what is kept of one is where its word stands.
unfoldable pub corner : Reader Span
corner = do
  x ← number
  e ← here
  give (record { first = x.place; length = e - x.place })

-- 9, 12, 7, 8, then 3: cell side out of range
unfoldable pub side : Reader ℤ
side = do
  m ← measure
  check (side_in m.is) 3 m.place
  give m.is

abbrev pub letter : ℕ → Bool
letter b = leb 97 (lower b) && leb (lower b) 122

-- the next word begins with a letter
abbrev pub letter_next : List ℕ → ℕ → Bool
letter_next s i = ltb (word_start s i) (length s) && letter (get_or s (word_start s i) 0)

-- a header name, followed by its number
unfoldable pub field : {A : Type 0} → List ℕ → Reader A → Reader A
field n r = name n >> r

-- The NoData number has no range.
unfoldable pub any_measure : Reader ℤ
any_measure = do
  m ← measure
  give m.is

-- absent: -9999, in cm
abbrev pub absent_no_data : ℤ
absent_no_data = neg_ℤ (pos (9999 * 100))

-- then optionally nodata_value and its number (absent: -9999); an eleventh word that begins with a letter must be nodata_value
unfoldable pub no_data : Reader ℤ
no_data s i = elim (letter_next s i) [ true ↦ field (bytes "nodata_value") any_measure s i | false ↦ got absent_no_data i ]

pub record Extent : Type 0 where
  pub rows : ℕ
  pub columns : ℕ

pub record Header : Type 0 where
  pub rows : ℕ
  pub columns : ℕ
  pub side : ℤ
  pub no_data : ℤ

-- the header with where its corner words stand
pub record Head : Type 0 where
  pub header : Header
  pub corners : Corners

-- The header is ncols, nrows, xllcorner, yllcorner, cellsize in that order, each followed by its number.
unfoldable pub extent : Reader Extent
extent = do
  c ← field (bytes "ncols") count
  r ← field (bytes "nrows") count
  give (record { rows = r; columns = c })

unfoldable pub corners : Reader Corners
corners = do
  x ← field (bytes "xllcorner") corner
  y ← field (bytes "yllcorner") corner
  give (record { x = x; y = y })

unfoldable pub side_and_no_data : Extent → Corners → Reader Head
side_and_no_data e c = do
  m ← field (bytes "cellsize") side
  n ← no_data
  give (record { header = record { rows = e.rows; columns = e.columns; side = m; no_data = n }; corners = c })

unfoldable pub head : Reader Head
head = do
  e ← extent
  c ← corners
  side_and_no_data e c

unfoldable pub header : Reader Header
header = do
  h ← head
  give h.header
