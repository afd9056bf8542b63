-- The rules' examples of the text, computed from the definitions. Assumes nothing.
use mathlib.Core.Path.{◌≡◌, refl}
use mathlib.Core.Bool.{true, false}
use mathlib.Core.List.{List, [], ◌∷◌, ◌++◌, map}
use Prim.Native.Nat.{ℕ, ◌+◌}
use Prim.Native.String.{String}
use lib.IntN.{ℤ, pos, neg_ℤ}
use lib.ListN.{length, replicate}
use Rattle.text.specs.Bytes.{bytes}
use Rattle.text.specs.Reader.{Step, got, refused}
use Rattle.text.specs.Words.{run, word_start, word_end, word}
use Rattle.text.specs.Numbers.{Placed, value, count_form_at, decimals, number_at, is_number, first_comma, comma_decimal, read, count, number, measure}
use Rattle.text.specs.Headers.{named, name, corner, side, field, any_measure, no_data, extent, corners, side_and_no_data, head, header}
use Rattle.text.specs.Heights.{height, heights, end, lone_header, body, grid}
use Rattle.text.specs.Answers.{Outcome, GridOutcome, header_answer, lone_header_answer, no_span, corners_answer, grid_answer}
use Rattle.text.specs.declared.Span.{Span}

-- ---- numbers, each as the only word of a text

pub data Read : Type 0 where
  cm : ℤ → Read
  wrong : ℕ → ℕ → Read

abbrev pub read_of : Step (Placed ℤ) → Read
read_of (got x i) = cm x.is
read_of (refused n p) = wrong n p

pub record Single : Type 0 where
  pub text : String
  pub gives : Read

unfoldable pub singles : List Single
singles =
    record { text = "12.5000"; gives = cm (pos 1250) } ∷
    record { text = "-0"; gives = cm (pos 0) } ∷
    record { text = "12.505"; gives = wrong 8 0 } ∷
    record { text = "12,5"; gives = wrong 12 2 } ∷
    record { text = ".5"; gives = wrong 7 0 } ∷
    record { text = "5."; gives = wrong 7 2 } ∷
    record { text = "+5"; gives = wrong 7 0 } ∷
    record { text = ""; gives = wrong 9 0 } ∷
    record { text = " -9999 "; gives = cm (neg_ℤ (pos 999900)) } ∷
    record { text = "-"; gives = wrong 7 1 } ∷
    record { text = "1234567890"; gives = wrong 7 9 } ∷
    record { text = "1.1234567"; gives = wrong 7 8 } ∷
    record { text = "0.001"; gives = wrong 8 0 } ∷
    record { text = "-0.070000"; gives = cm (neg_ℤ (pos 7)) } ∷
    record { text = "999999999.99"; gives = cm (pos 99999999999) } ∷ []

pub singles-hold : map (λ (x : Single). read_of (measure (bytes x.text) 0)) singles ≡ map (λ (x : Single). x.gives) singles
unfolding singles bytes run word_start word_end word value decimals number_at first_comma comma_decimal read number measure
singles-hold = refl

-- ---- bytes by themselves: which are a number's word

unfoldable pub alone : List String
alone = "0" ∷ "-0" ∷ "12.5" ∷ "123456789" ∷ "-999999999.123456" ∷ []

unfoldable pub not_alone : List String
not_alone = "" ∷ "-" ∷ "+5" ∷ ".5" ∷ "5." ∷ "12,5" ∷ " 5" ∷ "5 " ∷ "5x" ∷ "--5" ∷ "1.2.3" ∷ "1234567890" ∷ "1.1234567" ∷ "1.123456 " ∷ []

pub alone-hold : (map (λ (x : String). is_number (bytes x)) alone ≡ replicate 5 true) × (map (λ (x : String). is_number (bytes x)) not_alone ≡ replicate 14 false)
unfolding alone not_alone bytes run value decimals number_at is_number
alone-hold = (refl, refl)

-- ---- whole texts, with so many heights lent, each 77 beforehand

pub record Whole : Type 0 where
  pub lent : ℕ
  pub text : String
  pub number : ℕ
  pub place : ℕ
  pub heights : List ℤ

abbrev pub markers : ℕ → List ℤ
markers n = replicate n (pos 77)

unfoldable pub wholes : List Whole
wholes =
    record {
      lent = 9;
      text = "ncols 3 nrows 3 xllcorner 0 yllcorner 0 cellsize 10\n5 5 5\n5 2 4\n5 5 5\n";
      number = 0;
      place = 0;
      heights = pos 500 ∷ pos 500 ∷ pos 500 ∷ pos 500 ∷ pos 200 ∷ pos 400 ∷ pos 500 ∷ pos 500 ∷ pos 500 ∷ [];
    } ∷
    record {
      lent = 2;
      text = "NCOLS 2 nRows 1 xllcorner 0 yllcorner -1.5 cellsize 10 NODATA_value 9000.01 9000.01 -500";
      number = 0;
      place = 0;
      heights = neg_ℤ (pos 999900) ∷ neg_ℤ (pos 50000) ∷ [];
    } ∷
    record { lent = 1; text = ""; number = 9; place = 0; heights = markers 1 } ∷
    record { lent = 1; text = "ncols 0 x"; number = 1; place = 6; heights = markers 1 } ∷
    record { lent = 3; text = "ncols 2 nrows 1 xllcorner 0 yllcorner 0 cellsize 10 1,0 2"; number = 2; place = 0; heights = markers 3 } ∷
    record { lent = 2; text = "ncols 2 nrows 1 xllcorner 0 yllcorner 0 cellsize 0 1 2"; number = 3; place = 49; heights = markers 2 } ∷
    record { lent = 2; text = "ncols 2 nrows 1 xllcorner 0 yllcorner 0 cellsize 10 1 9000.01"; number = 5; place = 54; heights = markers 2 } ∷
    record { lent = 2; text = "ncols 2 nrows 1 xllcorner 0 yllcorner 0 cellsize 10 data 1"; number = 6; place = 52; heights = markers 2 } ∷
    record { lent = 2; text = "ncols 2 nrows 1 xllcorner 0 yllcorner 0 cellsize 10 12,5 2"; number = 12; place = 54; heights = markers 2 } ∷
    record { lent = 2; text = "ncols 2 nrows 1 xllcorner 0 yllcorner 0 cellsize 10 1 12.505"; number = 8; place = 54; heights = markers 2 } ∷
    record { lent = 2; text = "ncols 2 nrows 1 xllcorner 0 yllcorner 0 cellsize 10 1 "; number = 9; place = 54; heights = markers 2 } ∷
    record { lent = 2; text = "ncols 2 nrows 1 xllcorner 0 yllcorner 0 cellsize 10 1 2 3"; number = 10; place = 56; heights = markers 2 } ∷ []

pub record Told : Type 0 where
  pub number : ℕ
  pub place : ℕ
  pub heights : List ℤ

abbrev pub told_of : GridOutcome → Told
told_of r = record { number = r.answer.number; place = r.answer.place; heights = r.heights }

pub wholes-hold : map (λ (x : Whole). told_of (grid_answer (markers x.lent) (bytes x.text))) wholes
    ≡ map (λ (x : Whole). record { number = x.number; place = x.place; heights = x.heights }) wholes
unfolding wholes bytes run word_start word_end word value count_form_at decimals number_at first_comma comma_decimal read count number measure named name corner side field any_measure no_data extent corners side_and_no_data head header height heights end body grid
wholes-hold = refl

-- ---- words that are not right: number, and place from the word's first byte

pub record Broken : Type 0 where
  pub text : String
  pub number : ℕ
  pub place : ℕ

-- where a number is wanted
unfoldable pub numbers : List Broken
numbers =
    record { text = "12,5"; number = 12; place = 2 } ∷
    record { text = "12,505"; number = 12; place = 2 } ∷
    record { text = "-1,234 7"; number = 12; place = 2 } ∷
    record { text = ".5"; number = 7; place = 0 } ∷
    record { text = "+5"; number = 7; place = 0 } ∷
    record { text = "x"; number = 7; place = 0 } ∷
    record { text = ",5"; number = 7; place = 0 } ∷
    record { text = "5."; number = 7; place = 2 } ∷
    record { text = "5. 7"; number = 7; place = 2 } ∷
    record { text = "-"; number = 7; place = 1 } ∷
    record { text = "-5."; number = 7; place = 3 } ∷
    record { text = "1234567890"; number = 7; place = 9 } ∷
    record { text = "1.1234567"; number = 7; place = 8 } ∷
    record { text = "12,1234567"; number = 7; place = 2 } ∷
    record { text = "5,"; number = 7; place = 1 } ∷
    record { text = "1234567890,5"; number = 7; place = 9 } ∷
    record { text = "1,2,3"; number = 7; place = 1 } ∷
    record { text = "1.5,3"; number = 7; place = 3 } ∷ []

-- where a count is wanted
unfoldable pub counts : List Broken
counts =
    record { text = "5.0"; number = 7; place = 1 } ∷
    record { text = "1,5"; number = 7; place = 1 } ∷
    record { text = "5,"; number = 7; place = 1 } ∷
    record { text = "-5"; number = 7; place = 0 } ∷
    record { text = ",5 7"; number = 7; place = 0 } ∷
    record { text = "1234567890"; number = 7; place = 9 } ∷ []

-- what comes before a corner, the cell side, the NoData number and a height
unfoldable pub before_numbers : List String
before_numbers =
    "ncols 1 nrows 1 xllcorner " ∷
    "ncols 1 nrows 1 xllcorner 0 yllcorner " ∷
    "ncols 1 nrows 1 xllcorner 0 yllcorner 0 cellsize " ∷
    "ncols 1 nrows 1 xllcorner 0 yllcorner 0 cellsize 10 nodata_value " ∷
    "ncols 1 nrows 1 xllcorner 0 yllcorner 0 cellsize 10 nodata_value 0 " ∷ []

unfoldable pub before_counts : List String
before_counts = "ncols " ∷ "ncols 1 nrows " ∷ []

-- number and place in a text, and those that are claimed
abbrev pub found : String → Broken → ℕ × ℕ
found before x = let r = (grid_answer (markers 1) (bytes before ++ bytes x.text)).answer in (r.number, r.place)

abbrev pub claimed : String → Broken → ℕ × ℕ
claimed before x = (x.number, length (bytes before) + x.place)

pub numbers-break : map (λ (b : String). map (found b) numbers) before_numbers ≡ map (λ (b : String). map (claimed b) numbers) before_numbers
unfolding numbers before_numbers bytes run word_start word_end word value count_form_at decimals number_at first_comma comma_decimal read count number measure named name corner side field any_measure no_data extent corners side_and_no_data head header height heights end body grid
numbers-break = refl

pub counts-break : map (λ (b : String). map (found b) counts) before_counts ≡ map (λ (b : String). map (claimed b) counts) before_counts
unfolding counts before_counts bytes run word_start word_end word value count_form_at decimals number_at first_comma comma_decimal read count number measure named name corner side field any_measure no_data extent corners side_and_no_data head header height heights end body grid
counts-break = refl

-- ---- the header call: it judges nothing after the header, but the eleventh word belongs to it

pub header-alone : header_answer (bytes "ncols 2 nrows 1 xllcorner 0 yllcorner 0 cellsize 12.5 1,0")
    ≡ record { number = 0; place = 0; rows = 1; columns = 2; side = pos 1250; no_data = neg_ℤ (pos 999900) }
unfolding bytes run word_start word_end word value count_form_at decimals number_at first_comma comma_decimal read count number measure named name corner side field any_measure no_data extent corners side_and_no_data head header
header-alone = refl

pub eleventh-word : header_answer (bytes "ncols 2 nrows 1 xllcorner 0 yllcorner 0 cellsize 12.5 nan")
    ≡ record { number = 6; place = 54; rows = 0; columns = 0; side = pos 0; no_data = pos 0 }
unfolding bytes run word_start word_end word value count_form_at decimals number_at first_comma comma_decimal read count number measure named name corner side field any_measure no_data extent corners side_and_no_data head header
eleventh-word = refl

-- ---- a header that stands alone in its text: blanks may follow it, and no word

pub record Lone : Type 0 where
  pub text : String
  pub outcome : Outcome

-- 1 row of 2 columns, side 12.5 m, and so many cm as the NoData number
abbrev pub lone : ℤ → Outcome
lone no_data = record { number = 0; place = 0; rows = 1; columns = 2; side = pos 1250; no_data = no_data }

abbrev pub not_lone : ℕ → ℕ → Outcome
not_lone number place = record { number = number; place = place; rows = 0; columns = 0; side = pos 0; no_data = pos 0 }

unfoldable pub lones : List Lone
lones =
    record { text = "ncols 2 nrows 1 xllcorner 0 yllcorner 0 cellsize 12.5"; outcome = lone (neg_ℤ (pos 999900)) } ∷
    record { text = "\n ncols 2 nrows 1 xllcorner 0 yllcorner 0 cellsize 12.5 \t\r\n"; outcome = lone (neg_ℤ (pos 999900)) } ∷
    record { text = "ncols 2 nrows 1 xllcorner 0 yllcorner 0 cellsize 12.5 nodata_value -1"; outcome = lone (neg_ℤ (pos 100)) } ∷
    record { text = "ncols 2 nrows 1 xllcorner 0 yllcorner 0 cellsize 12.5\r\nNODATA_value 0\r\n"; outcome = lone (pos 0) } ∷
    -- 10 at the word, whatever it is
    record { text = "ncols 2 nrows 1 xllcorner 0 yllcorner 0 cellsize 12.5 1,0"; outcome = not_lone 10 54 } ∷
    record { text = "ncols 2 nrows 1 xllcorner 0 yllcorner 0 cellsize 12.5\nnodata_value -1\n\n\t x y"; outcome = not_lone 10 73 } ∷
    record { text = "ncols 2 nrows 1 xllcorner 0 yllcorner 0 cellsize 12.5\nnodata_value -1 -1"; outcome = not_lone 10 70 } ∷
    -- what the header call refuses, with its number and place
    record { text = ""; outcome = not_lone 9 0 } ∷
    record { text = "ncols 2 nrows 1 xllcorner 0 yllcorner 0 cellsize 12.5 nodata_value \n"; outcome = not_lone 9 68 } ∷
    record { text = "ncols 2 nrows 1 xllcorner 0 yllcorner 0 cellsize 12.5 nan"; outcome = not_lone 6 54 } ∷
    record { text = "ncols 2 nrows 1 xllcorner 0 yllcorner 0 cellsize 12.5 nodata_value 1,5 x"; outcome = not_lone 12 68 } ∷ []

pub lones-hold : map (λ (x : Lone). lone_header_answer (bytes x.text)) lones ≡ map (λ (x : Lone). x.outcome) lones
unfolding lones bytes run word_start word_end word value count_form_at decimals number_at first_comma comma_decimal read count number measure
    named name corner side field any_measure no_data extent corners side_and_no_data head header end lone_header
lones-hold = refl

-- ---- the corners: where their words stand, zeros at a refusal

pub record Cornered : Type 0 where
  pub text : String
  pub x : Span
  pub y : Span

abbrev pub span : ℕ → ℕ → Span
span first length = record { first = first; length = length }

unfoldable pub cornered : List Cornered
cornered =
    record { text = "ncols 1 nrows 1 xllcorner 0 yllcorner 12 cellsize 10"; x = span 26 1; y = span 38 2 } ∷
    record { text = "\t ncols 2\r\nnrows 1 xllcorner \t-12.500000\n\nyllcorner 7\tcellsize 10 1 2"; x = span 30 10; y = span 52 1 } ∷
    record { text = "ncols 1 nrows 1 xllcorner 999999999.123456 yllcorner -0 cellsize 10 nodata_value 5"; x = span 26 16; y = span 53 2 } ∷
    record { text = "ncols 1 nrows 1 xllcorner -12.5 yllcorner 7 cellsize 0"; x = no_span; y = no_span } ∷
    record { text = "ncols 1 nrows 1 xllcorner -12.5 yllcorner 7,5 cellsize 10"; x = no_span; y = no_span } ∷
    record { text = ""; x = no_span; y = no_span } ∷ []

pub cornered-hold : map (λ (r : Cornered). corners_answer (bytes r.text)) cornered ≡ map (λ (r : Cornered). record { x = r.x; y = r.y }) cornered
unfolding cornered bytes run word_start word_end word value count_form_at decimals number_at first_comma comma_decimal read count number measure named name corner side field any_measure no_data extent corners side_and_no_data head
cornered-hold = refl
