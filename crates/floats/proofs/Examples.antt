-- RULES 11: floats with their cm and their refusals, NoData floats, and answers of small grids, computed from the definitions. Assumes nothing.
use mathlib.Core.Path.{◌≡◌, refl}
use mathlib.Core.Bool.{Bool, true, false}
use mathlib.Core.List.{List, [], ◌∷◌, ◌++◌, map}
use Prim.Native.Nat.{ℕ, suc, ◌+◌}
use Prim.Native.String.{String}
use lib.Ieee.{binary32, of_bits, to_bits, round, eq}
use lib.IntN.{ℤ, pos, negsuc, neg_ℤ}
use lib.ListN.{replicate}
use Rattle.text.specs.Bytes.{bytes}
use Rattle.text.specs.Words.{run, word_start, word_end, word}
use Rattle.text.specs.Numbers.{value, count_form_at, decimals, number_at, first_comma, comma_decimal, read, count, number, measure}
use Rattle.text.specs.Headers.{named, name, corner, side, field, any_measure, no_data, extent, corners, side_and_no_data, head, header}
use Rattle.text.specs.Heights.{end, lone_header}
use Rattle.text.specs.Answers.{GridOutcome}
use Rattle.floats.specs.Floats.{equal, bits_at}
use Rattle.floats.specs.Rounding.{cm, nearest_float}
use Rattle.floats.specs.Answers.{height_of, fault_of, grid, floats_answer}

-- a number of cm below 0
abbrev pub minus : ℕ → ℤ
minus n = neg_ℤ (pos n)

-- the bits of a float with the sign minus
abbrev pub below : ℕ → ℕ
below m = 2147483648 + m

-- ---- bits and their cm

unfoldable pub rounded : List (ℕ × ℤ)
rounded =
    -- 0 and minus 0
    (0, pos 0) ∷
    (below 0, pos 0) ∷
    -- the floats nearest 0.005, 0.015, 0.025, 0.035 m, none of which is halfway: below, below, above, above
    (1000593162, pos 0) ∷
    (1014350479, pos 1) ∷
    (1020054733, pos 3) ∷
    (1024416809, pos 4) ∷
    -- the floats next to these on the other side of the half
    (1000593163, pos 1) ∷
    (1014350480, pos 2) ∷
    (1020054732, pos 2) ∷
    (1024416808, pos 3) ∷
    -- halves: 0.125, 0.375, 0.625, 0.875, 1.125, 8999.625, 8999.875 m
    (1040187392, pos 12) ∷
    (1052770304, pos 38) ∷
    (1059061760, pos 62) ∷
    (1063256064, pos 88) ∷
    (1066401792, pos 112) ∷
    (1175232128, pos 899962) ∷
    (1175232384, pos 899988) ∷
    -- and below 0: -0.125, -0.375, -0.625, -499.125, -499.375 m
    (3187671040, minus 12) ∷
    (3200253952, minus 38) ∷
    (3206545408, minus 62) ∷
    (3287912448, minus 49912) ∷
    (3287920640, minus 49938) ∷
    -- the greatest that rounds to 9,000 m, and the one after it; 9000.004 m
    (1175232517, pos 900000) ∷
    (1175232518, pos 900001) ∷
    (1175232516, pos 900000) ∷
    -- the least that rounds to -500 m, and the one after it
    (below 1140457635, minus 50000) ∷
    (below 1140457636, minus 50001) ∷
    -- denormal: the least and the greatest, with either sign; the least that is normal
    (1, pos 0) ∷
    (8388607, pos 0) ∷
    (below 1, pos 0) ∷
    (below 8388607, pos 0) ∷
    (8388608, pos 0) ∷
    -- 0.01, 12.5, 16777216 m
    (1008981770, pos 1) ∷
    (1095237632, pos 1250) ∷
    (1266679808, pos 1677721600) ∷
    -- -9999 m; the floats around it that round to -999,900 cm, the first and the last of them too, and those past them
    (3323739136, minus 999900) ∷
    (3323739135, minus 999900) ∷
    (3323739137, minus 999900) ∷
    (3323739131, minus 999900) ∷
    (3323739141, minus 999900) ∷
    (3323739130, minus 999899) ∷
    (3323739142, minus 999901) ∷
    -- the greatest float and the least
    (2139095039, pos 34028234663852885981170418348451692544000) ∷
    (4286578687, minus 34028234663852885981170418348451692544000) ∷ []

pub rounded-hold : map (λ (x : ℕ × ℤ). cm x.0) rounded ≡ map (λ (x : ℕ × ℤ). x.1) rounded
unfolding rounded cm
rounded-hold = refl

-- ---- numbers of cm and the floats nearest them

unfoldable pub nearest_floats : List (ℤ × ℕ)
nearest_floats =
    (pos 0, 0) ∷
    -- 0.01, -0.01, 12.5, -9999 m
    (pos 1, 1008981770) ∷
    (minus 1, 3156465418) ∷
    (pos 1250, 1095237632) ∷
    (minus 999900, 3323739136) ∷
    -- ties: 16777217 to 16777216, 16777219 to 16777220, 8388609.5 to 8388610, 16777215.5 to 16777216, 999999968 to 1000000000
    (pos 1677721700, 1266679808) ∷
    (pos 1677721900, 1266679810) ∷
    (pos 838860950, 1258291202) ∷
    (pos 1677721550, 1266679808) ∷
    (pos 99999996800, 1315859240) ∷
    -- and below 0
    (minus 1677721700, 3414163456) ∷
    (minus 1677721900, 3414163458) ∷
    -- 0.01 m beside the last tie: to 1000000000 and to 999999936
    (pos 99999996801, 1315859240) ∷
    (pos 99999996799, 1315859239) ∷
    -- 999999999.99 and -999999999.99
    (pos 99999999999, 1315859240) ∷
    (minus 99999999999, 3463342888) ∷
    -- 167772.17 to 167772.171875: as a float the number of cm would be 16777216, and so the float 167772.15625
    (pos 16777217, 1210308363) ∷ []

pub nearest-floats-hold : map (λ (x : ℤ × ℕ). nearest_float x.0) nearest_floats ≡ map (λ (x : ℤ × ℕ). x.1) nearest_floats
unfolding nearest_floats nearest_float
nearest-floats-hold = refl

-- ---- one cell that is refused: the NoData number in cm, the float's bits, and the number of the refusal

pub record Faulty : Type 0 where
  pub no_data : ℤ
  pub bits : ℕ
  pub fault : ℕ

unfoldable pub faulty : List Faulty
faulty =
    -- NaN: quiet, with the least payload, with the greatest, and with the sign minus
    record { no_data = minus 999900; bits = 2143289344; fault = 15 } ∷
    record { no_data = minus 999900; bits = 2139095041; fault = 15 } ∷
    record { no_data = minus 999900; bits = 2147483647; fault = 15 } ∷
    record { no_data = minus 999900; bits = below 2143289344; fault = 15 } ∷
    record { no_data = minus 999900; bits = below 2147483647; fault = 15 } ∷
    -- infinite
    record { no_data = minus 999900; bits = 2139095040; fault = 15 } ∷
    record { no_data = minus 999900; bits = below 2139095040; fault = 15 } ∷
    -- the greatest and the least float
    record { no_data = minus 999900; bits = 2139095039; fault = 5 } ∷
    record { no_data = minus 999900; bits = below 2139095039; fault = 5 } ∷
    -- the first past the range
    record { no_data = minus 999900; bits = 1175232518; fault = 5 } ∷
    record { no_data = minus 999900; bits = below 1140457636; fault = 5 } ∷
    -- next to the NoData float: they too round to -999,900
    record { no_data = minus 999900; bits = 3323739135; fault = 5 } ∷
    record { no_data = minus 999900; bits = 3323739137; fault = 5 } ∷
    -- -9999 under another NoData number
    record { no_data = pos 0; bits = 3323739136; fault = 5 } ∷
    -- 9999, where NoData is -9999
    record { no_data = minus 999900; bits = 1176255488; fault = 5 } ∷
    -- next to 1000000000, where NoData is 999999999.99
    record { no_data = pos 99999999999; bits = 1315859239; fault = 5 } ∷
    record { no_data = pos 99999999999; bits = 1315859241; fault = 5 } ∷ []

pub faulty-hold : map (λ (x : Faulty). fault_of (nearest_float x.no_data) x.bits) faulty ≡ map (λ (x : Faulty). x.fault) faulty
unfolding faulty nearest_float fault_of
faulty-hold = refl

-- ---- one cell that is not, and its height

pub record Sound : Type 0 where
  pub no_data : ℤ
  pub bits : ℕ
  pub height : ℤ

unfoldable pub sound : List Sound
sound =
    -- -9999
    record { no_data = minus 999900; bits = 3323739136; height = minus 999900 } ∷
    -- NoData 0: both zeros, but no other float that rounds to 0
    record { no_data = pos 0; bits = 0; height = minus 999900 } ∷
    record { no_data = pos 0; bits = below 0; height = minus 999900 } ∷
    record { no_data = pos 0; bits = 1; height = pos 0 } ∷
    record { no_data = pos 0; bits = below 1; height = pos 0 } ∷
    -- where it is another, both zeros are 0
    record { no_data = minus 999900; bits = 0; height = pos 0 } ∷
    record { no_data = minus 999900; bits = below 0; height = pos 0 } ∷
    -- NoData 0.01 and -0.01: the nearest float alone, and not the next one, which rounds to the same cm
    record { no_data = pos 1; bits = 1008981770; height = minus 999900 } ∷
    record { no_data = pos 1; bits = 1008981771; height = pos 1 } ∷
    record { no_data = pos 1; bits = below 1008981770; height = minus 1 } ∷
    record { no_data = minus 1; bits = below 1008981770; height = minus 999900 } ∷
    -- NoData out of the range: 16777217, whose float is 16777216; 999999999.99 and -999999999.99, whose floats are 1000000000 and -1000000000
    record { no_data = pos 1677721700; bits = 1266679808; height = minus 999900 } ∷
    record { no_data = pos 99999999999; bits = 1315859240; height = minus 999900 } ∷
    record { no_data = minus 99999999999; bits = 3463342888; height = minus 999900 } ∷
    -- the ends of the range
    record { no_data = minus 999900; bits = 1175232517; height = pos 900000 } ∷
    record { no_data = minus 999900; bits = 1175232516; height = pos 900000 } ∷
    record { no_data = minus 999900; bits = below 1140457635; height = minus 50000 } ∷ []

pub sound-hold : (map (λ (x : Sound). fault_of (nearest_float x.no_data) x.bits) sound ≡ replicate 17 0)
    × (map (λ (x : Sound). height_of (nearest_float x.no_data) x.bits) sound ≡ map (λ (x : Sound). x.height) sound)
unfolding sound nearest_float fault_of height_of
sound-hold = (refl, refl)

-- ---- bytes: the lowest bits first

-- two cells: the number 4 · 2 ^ 24 + 3 · 2 ^ 16 + 2 · 2 ^ 8 + 1, and 12.5 m
abbrev pub two : List ℕ
two = 1 ∷ 2 ∷ 3 ∷ 4 ∷ 0 ∷ 0 ∷ 72 ∷ 65 ∷ []

pub bytes-hold : (bits_at two 0 ≡ 67305985) × (bits_at two 1 ≡ 1095237632)
unfolding bits_at
bytes-hold = (refl, refl)

-- ---- the toolchain's own IEEE 754 has the same nearest floats, and the same floats are equal

abbrev pub rounded_from : ℤ → ℕ
rounded_from (pos n) = to_bits binary32 (round binary32 false n 100)
rounded_from (negsuc n) = to_bits binary32 (round binary32 true (suc n) 100)

pub nearest-agree : map (λ (x : ℤ × ℕ). rounded_from x.0) nearest_floats ≡ map (λ (x : ℤ × ℕ). x.1) nearest_floats
unfolding nearest_floats round to_bits
nearest-agree = refl

abbrev pub same_float : ℕ → ℕ → Bool
same_float a b = eq (of_bits binary32 a) (of_bits binary32 b)

pub equal-agree : map (λ (x : Sound). same_float x.bits (nearest_float x.no_data)) sound
    ≡ map (λ (x : Sound). equal x.bits (nearest_float x.no_data)) sound
unfolding sound nearest_float of_bits eq equal
equal-agree = refl

-- ---- whole answers: a header, floats, and so many heights lent, each 77 beforehand

pub record Call : Type 0 where
  pub lent : ℕ
  pub header : String
  pub floats : List ℕ

abbrev pub call : ℕ → String → List ℕ → Call
call lent header floats = record { lent = lent; header = header; floats = floats }

abbrev pub markers : ℕ → List ℤ
markers n = replicate n (pos 77)

unfoldable pub told : Call → GridOutcome
unfolding bytes run word_start word_end word value count_form_at decimals number_at first_comma comma_decimal read count number measure
    named name corner side field any_measure no_data extent corners side_and_no_data head header end lone_header grid
told x = floats_answer (markers x.lent) (bytes x.header) x.floats

-- rows, columns, side, NoData number and heights
abbrev pub accepts : ℕ → ℕ → ℤ → ℤ → List ℤ → GridOutcome
accepts rows columns side no_data heights =
    record { answer = record { number = 0; place = 0; rows = rows; columns = columns; side = side; no_data = no_data }; heights = heights }

-- number and place, every other number 0, and the heights as they were
abbrev pub refuses : Call → ℕ → ℕ → GridOutcome
refuses x number place =
    record { answer = record { number = number; place = place; rows = 0; columns = 0; side = pos 0; no_data = pos 0 }; heights = markers x.lent }

-- the headers of one cell and of two
abbrev pub one : String
one = "ncols 1 nrows 1 xllcorner 0 yllcorner 0 cellsize 10"

abbrev pub pair : String
pair = "ncols 2 nrows 1 xllcorner 0 yllcorner 0 cellsize 10"

-- the bytes of one cell: 12.5 m, -9999 m and the float after it, 9000.01 m, -500.01 m, infinite with either sign, NaN
abbrev pub height : List ℕ
height = 0 ∷ 0 ∷ 72 ∷ 65 ∷ []

abbrev pub none : List ℕ
none = 0 ∷ 60 ∷ 28 ∷ 198 ∷ []

abbrev pub next_to_none : List ℕ
next_to_none = 1 ∷ 60 ∷ 28 ∷ 198 ∷ []

abbrev pub high : List ℕ
high = 10 ∷ 160 ∷ 12 ∷ 70 ∷ []

abbrev pub low : List ℕ
low = 72 ∷ 1 ∷ 250 ∷ 195 ∷ []

abbrev pub infinite : List ℕ
infinite = 0 ∷ 0 ∷ 128 ∷ 127 ∷ []

abbrev pub minus_infinite : List ℕ
minus_infinite = 0 ∷ 0 ∷ 128 ∷ 255 ∷ []

abbrev pub not_a_number : List ℕ
not_a_number = 0 ∷ 0 ∷ 192 ∷ 127 ∷ []

-- ---- accepted

-- 2 rows of 3: 0.125, -0.375, -9999; the greatest float that rounds to 9000, minus 0, the least that rounds to -500
abbrev pub six : List ℕ
six =
    (0 ∷ 0 ∷ 0 ∷ 62 ∷ []) ++ (0 ∷ 0 ∷ 192 ∷ 190 ∷ []) ++ none
    ++ (5 ∷ 160 ∷ 12 ∷ 70 ∷ []) ++ (0 ∷ 0 ∷ 0 ∷ 128 ∷ []) ++ (163 ∷ 0 ∷ 250 ∷ 195 ∷ [])

pub record Accepted : Type 0 where
  pub call : Call
  pub outcome : GridOutcome

unfoldable pub accepted : List Accepted
accepted =
    record { call = call 1 one height; outcome = accepts 1 1 (pos 1000) (minus 999900) (pos 1250 ∷ []) } ∷
    record {
      call = call 6 "NCOLS 3\r\nNROWS 2\r\nXLLCORNER -12.5\r\nYLLCORNER 0\r\nCELLSIZE 2.5\r\nNODATA_value -9999\r\n" six;
      outcome = accepts 2 3 (pos 250) (minus 999900) (pos 12 ∷ minus 38 ∷ minus 999900 ∷ pos 900000 ∷ pos 0 ∷ minus 50000 ∷ []);
    } ∷
    -- NoData 0: 0, minus 0, and the least denormal
    record {
      call = call 3 "ncols 3 nrows 1 xllcorner 0 yllcorner 0 cellsize 10 nodata_value -0.00" (0 ∷ 0 ∷ 0 ∷ 0 ∷ 0 ∷ 0 ∷ 0 ∷ 128 ∷ 1 ∷ 0 ∷ 0 ∷ 0 ∷ []);
      outcome = accepts 1 3 (pos 1000) (pos 0) (minus 999900 ∷ minus 999900 ∷ pos 0 ∷ []);
    } ∷
    -- NoData -16777217: -16777216
    record {
      call = call 1 "ncols 1 nrows 1 xllcorner 0 yllcorner 0 cellsize 10 nodata_value -16777217" (0 ∷ 0 ∷ 128 ∷ 203 ∷ []);
      outcome = accepts 1 1 (pos 1000) (minus 1677721700) (minus 999900 ∷ []);
    } ∷
    -- NoData 999999999.99: 1000000000
    record {
      call = call 1 "ncols 1 nrows 1 xllcorner 0 yllcorner 0 cellsize 10 nodata_value 999999999.99" (40 ∷ 107 ∷ 110 ∷ 78 ∷ []);
      outcome = accepts 1 1 (pos 1000) (pos 99999999999) (minus 999900 ∷ []);
    } ∷
    -- NoData 12.5: 12.5, and the next float
    record {
      call = call 2 "ncols 1 nrows 2 xllcorner 0 yllcorner 0 cellsize 10 nodata_value 12.5\t" (0 ∷ 0 ∷ 72 ∷ 65 ∷ 1 ∷ 0 ∷ 72 ∷ 65 ∷ []);
      outcome = accepts 2 1 (pos 1000) (pos 1250) (minus 999900 ∷ pos 1250 ∷ []);
    } ∷ []

pub accepted-hold : map (λ (x : Accepted). told x.call) accepted ≡ map (λ (x : Accepted). x.outcome) accepted
unfolding accepted told
accepted-hold = refl

-- ---- refused

-- a call, and the refusal's number and place
pub record Wrong : Type 0 where
  pub call : Call
  pub number : ℕ
  pub place : ℕ

abbrev pub wrong : ℕ → String → List ℕ → ℕ → ℕ → Wrong
wrong lent header floats number place = record { call = call lent header floats; number = number; place = place }

-- one thing is wrong
unfoldable pub one_wrong : List Wrong
one_wrong =
    -- the refusals of the header call
    wrong 1 "" height 9 0 ∷
    wrong 1 "ncols 1 nrows 1 xllcorner 0 yllcorner 0 cellsize 10 nodata_value" height 9 64 ∷
    wrong 1 "ncols 1 nrows 1025 xllcorner 0 yllcorner 0 cellsize 10" height 1 14 ∷
    wrong 1 "ncols 1 nrows 1 xllcorner 0 yllcorner 0 cellsize 0" height 3 49 ∷
    wrong 1 "ncols 1 nrows 1 xllcorner 0 yllcorner 0 cellsize 10 data" height 6 52 ∷
    wrong 1 "ncols 1 nrows 1 xllcorner 0 yllcorner 0 cellsize 1e1" height 7 50 ∷
    wrong 1 "ncols 1 nrows 1 xllcorner 0 yllcorner 0 cellsize 10 nodata_value -9999.001" height 8 65 ∷
    wrong 1 "ncols 1 nrows 1 xllcorner 0 yllcorner 0 cellsize 12,5" height 12 51 ∷
    -- 10: the eleventh word, and the thirteenth
    wrong 1 "ncols 1 nrows 1 xllcorner 0 yllcorner 0 cellsize 10 12.5" height 10 52 ∷
    wrong 1 "ncols 1 nrows 1 xllcorner 0 yllcorner 0 cellsize 10 nodata_value -9999\nx" height 10 71 ∷
    -- 2: a height too many, none
    wrong 2 one height 2 0 ∷
    wrong 0 one height 2 0 ∷
    -- 14: no bytes, a byte too few, a byte too many, a cell too many
    wrong 1 one [] 14 0 ∷
    wrong 1 one (0 ∷ 0 ∷ 72 ∷ []) 14 0 ∷
    wrong 1 one (0 ∷ 0 ∷ 72 ∷ 65 ∷ 0 ∷ []) 14 0 ∷
    wrong 1 one (height ++ height) 14 0 ∷
    -- 15
    wrong 2 pair (height ++ not_a_number) 15 1 ∷
    wrong 2 pair (height ++ infinite) 15 1 ∷
    wrong 2 pair (minus_infinite ++ height) 15 0 ∷
    -- 5
    wrong 2 pair (height ++ low) 5 1 ∷
    wrong 6 "ncols 3 nrows 2 xllcorner 0 yllcorner 0 cellsize 10" (height ++ none ++ height ++ none ++ high ++ height) 5 4 ∷
    wrong 2 pair (none ++ next_to_none) 5 1 ∷
    wrong 1 "ncols 1 nrows 1 xllcorner 0 yllcorner 0 cellsize 10 nodata_value 0" none 5 0 ∷ []

-- two things are wrong, or more: the earlier refusal is given
unfoldable pub several_wrong : List Wrong
several_wrong =
    -- the header and all else
    wrong 5 "ncols 1 nrows 1 xllcorner 0 yllcorner 0 cellsize 12,5 x" (0 ∷ not_a_number) 12 51 ∷
    -- 10 and 2, 10 and 14
    wrong 2 "ncols 1 nrows 1 xllcorner 0 yllcorner 0 cellsize 10 12.5" height 10 52 ∷
    wrong 1 "ncols 1 nrows 1 xllcorner 0 yllcorner 0 cellsize 10 12.5" [] 10 52 ∷
    -- 2 and 14: the bytes are those of the heights that are lent, or none
    wrong 2 one (height ++ height) 2 0 ∷
    wrong 2 one [] 2 0 ∷
    -- 2 and 15
    wrong 2 one not_a_number 2 0 ∷
    -- 14 and 15, 14 and 5
    wrong 1 one (not_a_number ++ 0 ∷ []) 14 0 ∷
    wrong 1 one (high ++ height) 14 0 ∷
    -- 5 in a cell and 15 in the next; 15 and then 5; 15 twice
    wrong 2 pair (low ++ not_a_number) 5 0 ∷
    wrong 2 pair (infinite ++ high) 15 0 ∷
    wrong 3 "ncols 1 nrows 3 xllcorner 0 yllcorner 0 cellsize 10" (none ++ infinite ++ not_a_number) 15 1 ∷ []

abbrev pub told_of : Wrong → GridOutcome
told_of x = told x.call

abbrev pub claimed_of : Wrong → GridOutcome
claimed_of x = refuses x.call x.number x.place

pub one-wrong-hold : map told_of one_wrong ≡ map claimed_of one_wrong
unfolding one_wrong told
one-wrong-hold = refl

pub several-wrong-hold : map told_of several_wrong ≡ map claimed_of several_wrong
unfolding several_wrong told
several-wrong-hold = refl
