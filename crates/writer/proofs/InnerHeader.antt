-- Laws of the header's lines: how long they are, and how a line is put down in parts. Assumes nothing.
use mathlib.Core.Path.{◌≡◌, sym}
use mathlib.Core.List.{List, [], ◌∷◌, ◌++◌, append-nil}
use Prim.Native.Nat.{ℕ, ◌+◌}
use native.Mathlib.Omega.{arith}
use lib.ListN.{length, length-append}
use Rattle.text.specs.Bytes.{bytes}
use Rattle.numerals.specs.Words.{decimal, fixed, line}
use Rattle.numerals.specs.Writing.{overlay, Wrote}
use Rattle.numerals.proofs.Writing.{wrote-laid, wrote-byte, wrote_as, wrote_then}
use Rattle.writer.specs.Words.{none, metres}
use Rattle.writer.specs.Text.{Frame, header_words, lines}

-- ---- a line of a name and a word: the name, a space, the word, LF

field-length : (name word : List ℕ) → length (line (name ∷ word ∷ [])) ≡ length name + length word + 2
unfolding line
field-length name word = omega (arith, length-append name (32 ∷ (word ++ (10 ∷ []))), length-append word (10 ∷ []))

module _ (name word : List ℕ) (at : ℕ) {room a b c e : List ℕ} {i end : ℕ} where
  pub wrote-field : a ≡ overlay room at name → i ≡ length name → b ≡ overlay a (at + i) (32 ∷ []) → Wrote b (at + i + 1) word end c
      → e ≡ overlay c end (10 ∷ []) → Wrote room at (line (name ∷ word ∷ [])) (end + 1) e
  unfolding line
  wrote-field ea ei eb w ee =
      wrote_then {a = name} {b = 32 ∷ (word ++ (10 ∷ []))} (wrote-laid at i ea ei)
      (wrote_then {a = 32 ∷ []} {b = word ++ (10 ∷ [])} (wrote-byte (at + i) 32 eb) (wrote_then {a = word} {b = 10 ∷ []} w (wrote-byte end 10 ee)))

-- ---- all six lines

lines_more : (words : List (List ℕ)) (rest : List (List (List ℕ))) → length (lines (words ∷ rest)) ≡ length (line words) + length (lines rest)
unfolding lines
lines_more words rest = length-append (line words) (lines rest)

-- a line of a name and a word, and what follows it
fields-more : (name word : List ℕ) (rest : List (List (List ℕ)))
    → length (lines ((name ∷ word ∷ []) ∷ rest)) ≡ length name + length word + 2 + length (lines rest)
fields-more name word rest = omega (arith, lines_more (name ∷ word ∷ []) rest, field-length name word)

-- a name and a word before more lines
abbrev before : List ℕ → List ℕ → List (List (List ℕ)) → List (List (List ℕ))
before name word rest = (name ∷ word ∷ []) ∷ rest

pub header-length : (f : Frame)
    → length (lines (header_words f))
    ≡ 65 + (length (decimal f.columns) + length (decimal f.rows)) + (length f.x + length f.y) + length (fixed 2 f.side)
unfolding header_words lines bytes none metres
header-length f =
    let bare = before (bytes "nodata_value") none [] in
    let sided = before (bytes "cellsize") (fixed 2 f.side) bare in
    let below = before (bytes "yllcorner") f.y sided in
    let left = before (bytes "xllcorner") f.x below in
    let tall = before (bytes "nrows") (decimal f.rows) left in
    omega (
      arith,
      fields-more (bytes "ncols") (decimal f.columns) tall,
      fields-more (bytes "nrows") (decimal f.rows) left,
      fields-more (bytes "xllcorner") f.x below,
      fields-more (bytes "yllcorner") f.y sided,
      fields-more (bytes "cellsize") (fixed 2 f.side) bare,
      fields-more (bytes "nodata_value") none [],
    )

-- one line after the other
module _ (f : Frame) {r0 r1 r2 r3 r4 r5 r6 : List ℕ} {a b c d e g : ℕ} where
  pub wrote-header : Wrote r0 0 (line (bytes "ncols" ∷ decimal f.columns ∷ [])) a r1 → Wrote r1 a (line (bytes "nrows" ∷ decimal f.rows ∷ [])) b r2
      → Wrote r2 b (line (bytes "xllcorner" ∷ f.x ∷ [])) c r3 → Wrote r3 c (line (bytes "yllcorner" ∷ f.y ∷ [])) d r4
      → Wrote r4 d (line (bytes "cellsize" ∷ fixed 2 f.side ∷ [])) e r5 → Wrote r5 e (line (bytes "nodata_value" ∷ none ∷ [])) g r6
      → Wrote r0 0 (lines (header_words f)) g r6
  unfolding lines header_words metres
  wrote-header columns rows x y side no-data =
      let last = wrote_as (sym (append-nil (line (bytes "nodata_value" ∷ none ∷ [])))) no-data in
      wrote_then columns (wrote_then rows (wrote_then x (wrote_then y (wrote_then side last))))
