-- RULES 10: words, whole texts and answers of small grids, computed from the definitions. Assumes nothing.
use mathlib.Core.Path.{◌≡◌, refl}
use mathlib.Core.List.{List, [], ◌∷◌, ◌++◌, map}
use Prim.Native.Nat.{ℕ, ◌+◌, ◌-◌}
use Prim.Native.String.{String}
use lib.IntN.{ℤ, pos, neg_ℤ}
use lib.ListN.{replicate}
use Rattle.text.specs.Bytes.{bytes}
use Rattle.text.specs.Words.{run}
use Rattle.text.specs.Numbers.{value, decimals}
use Rattle.writer.specs.Words.{height_word, count_word, factor_word, direction_word}
use Rattle.writer.specs.Text.{Frame, frame, text_of}
use Rattle.writer.specs.Answers.{Cells, height_cells, count_cells, factor_cells, direction_cells, answer, after}
use Rattle.text.specs.declared.Refusal.{Refusal}
use Rattle.text.specs.Faults.{fault_of}
use Rattle.std.specs.Prelude.{Result, Ok, Err}

-- ---- words of single cells

-- heights in cm; NoData is -999,900, and its word has no decimals
unfoldable pub height_words : List (ℤ × String)
height_words =
    (pos 0, "0.00") ∷
    (pos 5, "0.05") ∷
    (neg_ℤ (pos 5), "-0.05") ∷
    (pos 100, "1.00") ∷
    (neg_ℤ (pos 100), "-1.00") ∷
    (pos 1250, "12.50") ∷
    (pos 900000, "9000.00") ∷
    (neg_ℤ (pos 50000), "-500.00") ∷
    (neg_ℤ (pos 999900), "-9999") ∷ []

-- counts; NoData is 0
unfoldable pub count_words : List (ℕ × String)
count_words = (0, "-9999") ∷ (1, "1") ∷ (10, "10") ∷ (9999, "9999") ∷ (1048576, "1048576") ∷ (4294967295, "4294967295") ∷ []

-- LS in hundred-thousandths; the last two are too long and NoData
unfoldable pub factor_words : List (ℕ × String)
factor_words =
    (0, "0.00000") ∷
    (1, "0.00001") ∷
    (4810, "0.04810") ∷
    (100000, "1.00000") ∷
    (4294967293, "42949.67293") ∷
    (4294967294, "-9999") ∷
    (4294967295, "-9999") ∷ []

-- codes of directions; NoData is 255, and any other byte is a number, be it a code or not
unfoldable pub direction_words : List (ℕ × String)
direction_words = (0, "0") ∷ (1, "1") ∷ (9, "9") ∷ (10, "10") ∷ (99, "99") ∷ (100, "100") ∷ (128, "128") ∷ (254, "254") ∷ (255, "-9999") ∷ []

pub height-words-hold : map (λ (x : ℤ × String). height_word x.0) height_words ≡ map (λ (x : ℤ × String). bytes x.1) height_words
unfolding height_words bytes height_word
height-words-hold = refl

pub count-words-hold : map (λ (x : ℕ × String). count_word x.0) count_words ≡ map (λ (x : ℕ × String). bytes x.1) count_words
unfolding count_words bytes count_word
count-words-hold = refl

pub factor-words-hold : map (λ (x : ℕ × String). factor_word x.0) factor_words ≡ map (λ (x : ℕ × String). bytes x.1) factor_words
unfolding factor_words bytes factor_word
factor-words-hold = refl

pub direction-words-hold : map (λ (x : ℕ × String). direction_word x.0) direction_words ≡ map (λ (x : ℕ × String). bytes x.1) direction_words
unfolding direction_words bytes direction_word
direction-words-hold = refl

-- ---- calls

-- what is written
pub data Grid : Type 0 where
  heights : List ℤ → Grid
  counts : List ℕ → Grid
  factors : List ℕ → Grid
  directions : List ℕ → Grid

-- a call, but for its room
pub record Call : Type 0 where
  pub frame : Frame
  pub grid : Grid

abbrev pub call : ℕ → ℕ → ℕ → String → String → Grid → Call
call rows columns side x y grid = record { frame = frame rows columns side (bytes x) (bytes y); grid = grid }

abbrev pub cells_of : Frame → Grid → Cells
cells_of f (heights hs) = height_cells f hs
cells_of f (counts ns) = count_cells ns
cells_of f (factors ns) = factor_cells ns
cells_of f (directions ns) = direction_cells ns

-- the text of a call
abbrev pub written : Call → List ℕ
written c = text_of c.frame (cells_of c.frame c.grid).words

-- a room of n bytes, each of them a star, 42
abbrev pub stars : ℕ → List ℕ
stars n = replicate n 42

-- the answer, and the room afterwards
pub record Told : Type 0 where
  pub answer : Result ℕ Refusal
  pub room : List ℕ

abbrev pub told : Call → ℕ → Told
told c n =
    let cells = cells_of c.frame c.grid in
    record { answer = answer c.frame cells (stars n); room = after c.frame cells (stars n) }

abbrev pub refused : ℕ → ℕ → Result ℕ Refusal
refused number place = Err (record { fault = fault_of number; place = place })

-- ---- whole texts

-- a call, its text, and how long that is
pub record Whole : Type 0 where
  pub call : Call
  pub text : String
  pub length : ℕ

unfoldable pub wholes : List Whole
wholes =
    -- heights: below 0, 0, NoData, the largest, the smallest, and 5 cm
    record {
      call = call 2 3 1000 "-12.500000" "0" (heights (neg_ℤ (pos 5) ∷ pos 0 ∷ neg_ℤ (pos 999900) ∷ pos 900000 ∷ neg_ℤ (pos 50000) ∷ pos 5 ∷ []));
      text = "ncols 3\nnrows 2\nxllcorner -12.500000\nyllcorner 0\ncellsize 10.00\nnodata_value -9999\n-0.05 0.00 -9999\n9000.00 -500.00 0.05\n";
      length = 121;
    } ∷
    -- counts: NoData is 0
    record {
      call = call 2 3 1000 "-12.500000" "0" (counts (0 ∷ 1 ∷ 12 ∷ 1048576 ∷ 9999 ∷ 4294967295 ∷ []));
      text = "ncols 3\nnrows 2\nxllcorner -12.500000\nyllcorner 0\ncellsize 10.00\nnodata_value -9999\n-9999 1 12\n1048576 9999 4294967295\n";
      length = 118;
    } ∷
    -- LS: 0, 4,810, NoData, too long, the largest that is neither, and 100,000
    record {
      call = call 2 3 1000 "-12.500000" "0" (factors (0 ∷ 4810 ∷ 4294967295 ∷ 4294967294 ∷ 4294967293 ∷ 100000 ∷ []));
      text = "ncols 3\nnrows 2\nxllcorner -12.500000\nyllcorner 0\ncellsize 10.00\nnodata_value -9999\n0.00000 0.04810 -9999\n-9999 42949.67293 1.00000\n";
      length = 131;
    } ∷
    -- directions: off the map, east, NoData, north-east, north, and a byte that is no code
    record {
      call = call 2 3 1000 "-12.500000" "0" (directions (0 ∷ 1 ∷ 255 ∷ 128 ∷ 64 ∷ 200 ∷ []));
      text = "ncols 3\nnrows 2\nxllcorner -12.500000\nyllcorner 0\ncellsize 10.00\nnodata_value -9999\n0 1 -9999\n128 64 200\n";
      length = 104;
    } ∷
    -- the smallest grid and cell side
    record {
      call = call 1 1 1 "0" "-0" (heights (pos 0 ∷ []));
      text = "ncols 1\nnrows 1\nxllcorner 0\nyllcorner -0\ncellsize 0.01\nnodata_value -9999\n0.00\n";
      length = 79;
    } ∷ []

pub wholes-hold : map (λ (x : Whole). written x.call) wholes ≡ map (λ (x : Whole). bytes x.text) wholes
unfolding wholes bytes text_of height_cells count_cells factor_cells direction_cells
wholes-hold = refl

-- with a room 3 bytes longer than the text, whose last 3 bytes stay; just as long; and 1 byte shorter, which is refused
abbrev pub told_of_rooms : Whole → List Told
told_of_rooms x = map (told x.call) ((x.length + 3) ∷ x.length ∷ (x.length - 1) ∷ [])

abbrev pub claimed_of_rooms : Whole → List Told
claimed_of_rooms x =
    record { answer = Ok x.length; room = bytes x.text ++ stars 3 } ∷
    record { answer = Ok x.length; room = bytes x.text } ∷
    record { answer = refused 13 0; room = stars (x.length - 1) } ∷ []

pub rooms-hold : map told_of_rooms wholes ≡ map claimed_of_rooms wholes
unfolding wholes bytes run value decimals height_cells count_cells factor_cells direction_cells answer after fault_of
rooms-hold = refl

-- ---- refusals

-- a call with a room of so many bytes, and the refusal's number and place
pub record Case : Type 0 where
  pub call : Call
  pub room : ℕ
  pub number : ℕ
  pub place : ℕ

-- six heights: 2 rows of 3 columns, side 1,000, corners 0 and a room of 200 bytes are accepted with them, as is computed below
abbrev pub six : Grid
six = heights (pos 0 ∷ pos 1 ∷ pos 2 ∷ pos 3 ∷ pos 4 ∷ pos 5 ∷ [])

-- one fewer
abbrev pub five : Grid
five = heights (pos 0 ∷ pos 1 ∷ pos 2 ∷ pos 3 ∷ pos 4 ∷ [])

-- one thing is wrong
unfoldable pub one_wrong : List Case
one_wrong =
    -- 1: no rows, no columns, 1,025 columns, 1,025 rows
    record { call = call 0 3 1000 "0" "0" (heights []); room = 200; number = 1; place = 0 } ∷
    record { call = call 2 0 1000 "0" "0" (counts []); room = 200; number = 1; place = 0 } ∷
    record { call = call 1 1025 1000 "0" "0" (heights (replicate 1025 (pos 5))); room = 9000; number = 1; place = 0 } ∷
    record { call = call 1025 1 1000 "0" "0" (factors (replicate 1025 5)); room = 9000; number = 1; place = 0 } ∷
    record { call = call 0 0 1000 "0" "0" (directions []); room = 200; number = 1; place = 0 } ∷
    -- 2: a cell too few, a cell too many
    record { call = call 2 3 1000 "0" "0" five; room = 200; number = 2; place = 0 } ∷
    record { call = call 1 5 1000 "0" "0" six; room = 200; number = 2; place = 0 } ∷
    record { call = call 1 2 1000 "0" "0" (counts (1 ∷ [])); room = 200; number = 2; place = 0 } ∷
    record { call = call 1 2 1000 "0" "0" (factors []); room = 200; number = 2; place = 0 } ∷
    record { call = call 1 2 1000 "0" "0" (directions (1 ∷ 2 ∷ 4 ∷ [])); room = 200; number = 2; place = 0 } ∷
    -- 3: cell side 0, and 1,000.01 m
    record { call = call 2 3 0 "0" "0" six; room = 200; number = 3; place = 0 } ∷
    record { call = call 2 3 100001 "0" "0" six; room = 200; number = 3; place = 0 } ∷
    record { call = call 1 1 0 "0" "0" (counts (1 ∷ [])); room = 200; number = 3; place = 0 } ∷
    record { call = call 1 1 100001 "0" "0" (directions (1 ∷ [])); room = 200; number = 3; place = 0 } ∷
    -- 5: one cm above the largest height, one below the smallest, and beside NoData
    record { call = call 2 3 1000 "0" "0" (heights (pos 0 ∷ pos 1 ∷ pos 2 ∷ pos 3 ∷ pos 900001 ∷ pos 5 ∷ [])); room = 200; number = 5; place = 4 } ∷
    record { call = call 1 2 1000 "0" "0" (heights (neg_ℤ (pos 50001) ∷ pos 0 ∷ [])); room = 200; number = 5; place = 0 } ∷
    record { call = call 1 2 1000 "0" "0" (heights (neg_ℤ (pos 999900) ∷ neg_ℤ (pos 999901) ∷ [])); room = 200; number = 5; place = 1 } ∷
    record { call = call 1 2 1000 "0" "0" (heights (neg_ℤ (pos 999900) ∷ neg_ℤ (pos 999899) ∷ [])); room = 200; number = 5; place = 1 } ∷
    -- 13: no room, or too little
    record { call = call 2 3 1000 "0" "0" six; room = 0; number = 13; place = 0 } ∷
    record { call = call 2 3 1000 "0" "0" six; room = 50; number = 13; place = 0 } ∷
    record { call = call 1 1 1000 "0" "0" (counts (1 ∷ [])); room = 0; number = 13; place = 0 } ∷
    record { call = call 1 1 1000 "0" "0" (factors (1 ∷ [])); room = 0; number = 13; place = 0 } ∷
    record { call = call 1 1 1000 "0" "0" (directions (1 ∷ [])); room = 0; number = 13; place = 0 } ∷ []

-- two things are wrong, or more: the earlier refusal is given
unfoldable pub several_wrong : List Case
several_wrong =
    -- 1 and 2
    record { call = call 0 3 1000 "0" "0" six; room = 200; number = 1; place = 0 } ∷
    record { call = call 2 1025 1000 "0" "0" (counts []); room = 200; number = 1; place = 0 } ∷
    -- 2 and 3
    record { call = call 2 3 0 "0" "0" five; room = 200; number = 2; place = 0 } ∷
    -- 3 and 7
    record { call = call 2 3 100001 "12,5" "0" six; room = 200; number = 3; place = 0 } ∷
    record { call = call 2 3 0 "0" "" six; room = 200; number = 3; place = 0 } ∷
    -- 7 of x and of y
    record { call = call 2 3 1000 "1e5" ".5" six; room = 200; number = 7; place = 1 } ∷
    -- 7 and 5
    record { call = call 1 1 1000 ".5" "0" (heights (pos 900001 ∷ [])); room = 200; number = 7; place = 1 } ∷
    record { call = call 1 1 1000 "0" ".5" (heights (pos 900001 ∷ [])); room = 200; number = 7; place = 2 } ∷
    -- 7 and 13
    record { call = call 1 1 1000 "0" ".5" (counts (1 ∷ [])); room = 0; number = 7; place = 2 } ∷
    record { call = call 1 1 1000 "0" ".5" (factors (1 ∷ [])); room = 0; number = 7; place = 2 } ∷
    record { call = call 1 1 1000 "0" ".5" (directions (1 ∷ [])); room = 0; number = 7; place = 2 } ∷
    -- 5 twice
    record { call = call 1 3 1000 "0" "0" (heights (pos 0 ∷ pos 900001 ∷ neg_ℤ (pos 50001) ∷ [])); room = 200; number = 5; place = 1 } ∷
    -- 5 and 13
    record { call = call 1 2 1000 "0" "0" (heights (pos 0 ∷ pos 900001 ∷ [])); room = 0; number = 5; place = 1 } ∷
    -- all of them
    record { call = call 0 3 0 "" "" (heights (pos 900001 ∷ [])); room = 0; number = 1; place = 0 } ∷ []

abbrev pub told_of_case : Case → Told
told_of_case x = told x.call x.room

-- at a refusal the room stays as it was
abbrev pub claimed_of_case : Case → Told
claimed_of_case x = record { answer = refused x.number x.place; room = stars x.room }

pub one-wrong-hold : map told_of_case one_wrong ≡ map claimed_of_case one_wrong
unfolding one_wrong bytes run value decimals height_cells count_cells factor_cells direction_cells answer after fault_of
one-wrong-hold = refl

pub several-wrong-hold : map told_of_case several_wrong ≡ map claimed_of_case several_wrong
unfolding several_wrong bytes run value decimals height_cells count_cells factor_cells direction_cells answer after fault_of
several-wrong-hold = refl

-- ---- 7: corner words of bad form

unfoldable pub bad_corners : List String
bad_corners = "" ∷ "12,5" ∷ "1e5" ∷ ".5" ∷ "5." ∷ "+5" ∷ "-" ∷ " 5" ∷ "5 " ∷ "1 2" ∷ "5\n" ∷ "1234567890" ∷ "0.1234567" ∷ []

-- one cell of each kind
abbrev pub grids : List Grid
grids = heights (pos 5 ∷ []) ∷ counts (1 ∷ []) ∷ factors (4810 ∷ []) ∷ directions (64 ∷ []) ∷ []

-- such a word as x, as y, and as both
abbrev pub told_of_corner : Grid → String → List Told
told_of_corner g w = told (call 1 1 1000 w "0" g) 200 ∷ told (call 1 1 1000 "0" w g) 200 ∷ told (call 1 1 1000 w w g) 200 ∷ []

abbrev pub claimed_of_corner : Grid → String → List Told
claimed_of_corner g w =
    record { answer = refused 7 1; room = stars 200 } ∷
    record { answer = refused 7 2; room = stars 200 } ∷
    record { answer = refused 7 1; room = stars 200 } ∷ []

pub bad-corners-hold : map (λ (g : Grid). map (told_of_corner g) bad_corners) grids ≡ map (λ (g : Grid). map (claimed_of_corner g) bad_corners) grids
unfolding bad_corners bytes run value decimals height_cells count_cells factor_cells direction_cells answer after fault_of
bad-corners-hold = refl

-- ---- what is not refused: the bounds, and counts, LS and directions of any size

-- a call, and how long its text is; the room has 200 bytes
unfoldable pub accepted : List (Call × ℕ)
accepted =
    (call 2 3 1000 "0" "0" six, 104) ∷
    (call 1 1 100000 "-999999999.123456" "123456789" (heights (neg_ℤ (pos 50000) ∷ [])), 108) ∷
    (call 1 1 1 "0" "0" (heights (neg_ℤ (pos 999900) ∷ [])), 79) ∷
    (call 1 1 1 "0" "0" (heights (pos 900000 ∷ [])), 81) ∷
    (call 1 1 1 "0" "0" (counts (900001 ∷ [])), 80) ∷
    (call 1 1 1 "0" "0" (factors (900001 ∷ [])), 81) ∷
    (call 1 1 1 "0" "0" (counts (4294967295 ∷ [])), 84) ∷
    (call 1 1 1 "0" "0" (factors (4294967295 ∷ [])), 79) ∷
    (call 1 1 1 "0" "0" (directions (0 ∷ [])), 75) ∷
    (call 1 1 1 "0" "0" (directions (254 ∷ [])), 77) ∷
    (call 1 1 1 "0" "0" (directions (255 ∷ [])), 79) ∷ []

pub accepted-hold : map (λ (x : Call × ℕ). (told x.0 200).answer) accepted ≡ map (λ (x : Call × ℕ). Ok x.1) accepted
unfolding accepted bytes run value decimals height_cells count_cells factor_cells direction_cells answer after fault_of
accepted-hold = refl

-- counts, LS and directions have no test of their own: none of them gives 5
pub never-five : (ns : List ℕ) → ((count_cells ns).tests ≡ []) × ((factor_cells ns).tests ≡ []) × ((direction_cells ns).tests ≡ [])
unfolding count_cells factor_cells direction_cells
never-five ns = (refl, refl, refl)
