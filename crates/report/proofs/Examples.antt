-- RULES 12: reports of small maps, joins and refusals, computed from the definitions. The numbers are worked out by hand. Assumes nothing.
use mathlib.Core.Path.{◌≡◌, refl}
use mathlib.Core.List.{List, [], ◌∷◌, map}
use Prim.Native.Nat.{ℕ, ◌-◌}
use Rattle.std.specs.Prelude.{Option, None}
use lib.Dec.{eqb}
use lib.Ieee.{Float}
use lib.ListN.{length}
use Rattle.laws.specs.Sums.{when}
use Rattle.laws.specs.Tests.{Test, passed, failed}
use Rattle.settings.specs.declared.Channel.{Channel}
use Rattle.settings.specs.declared.Channel.TheVariants.{Percentage, Cells, NoChannel}
use Rattle.settings.specs.declared.Formula.TheVariants.{Older}
use Rattle.settings.specs.declared.Settings.{Settings}
use Rattle.settings.specs.Settings.{quotient, default_settings}
use Rattle.factor.specs.Farms.{one as one_farm, two as two_farms, mark_test}
use Rattle.factor.specs.Cell.{too_long}
use Rattle.factor.specs.Grid.{no_data_factor}
use Rattle.factor.specs.Answers.{found as told_by}
use Rattle.report.specs.Maps.{Map, map_of}
use Rattle.report.specs.Reports.{found, report_of}
use Rattle.report.specs.Answers.{Reported, after_add, after_join}
use Rattle.report.specs.declared.Greatest.{Greatest}
use Rattle.report.specs.declared.Report.{Report}
use Rattle.report.proofs.Lists.{sheet}

abbrev settings_of : Float → Float → Channel → Settings
settings_of low high channel = record { low = low; high = high; channel = channel; formula = Older }

abbrev no_channel : Settings
no_channel = settings_of (quotient 100 50) (quotient 100 50) NoChannel

-- ---- reports of lists

-- a row of cells with these LS, each with count 1, and no channels
abbrev row : List ℕ → Map
row factors = map_of 1 (length factors) (one_farm no_channel) (map (λ v. 1) factors) factors

unfoldable pub reports : List (List Map × Report)
reports =
    -- no maps, and one without data
    ([], sheet 0 0 0 0 0 0 0 0 0 0 None) ∷
    (map_of 1 2 (one_farm no_channel) (0 ∷ 0 ∷ []) (no_data_factor ∷ no_data_factor ∷ []) ∷ [], sheet 1 0 0 0 0 0 0 0 0 0 None) ∷
    -- each class at its bounds, LS 0, too long and NoData; the default percentage of 1.0 makes channels of counts above 2 where the largest is 200
    (
      map_of 3 3 (one_farm default_settings) (0 ∷ 1 ∷ 2 ∷ 3 ∷ 200 ∷ 0 ∷ 1 ∷ 2 ∷ 0 ∷ [])
          (99999 ∷ 100000 ∷ 499999 ∷ 500000 ∷ 999999 ∷ 1000000 ∷ 0 ∷ too_long ∷ no_data_factor ∷ [])
          ∷ [],
      sheet 1 6 2 1 1 3199997 2 2 2 1 (found 1000000 0 5),
    ) ∷
    -- channels by a number of cells; any 32-bit number is a count; the greatest LS that there can be
    (
      map_of 1 3 (one_farm (settings_of (quotient 100 50) (quotient 100 50) (Cells 7))) (7 ∷ 8 ∷ 4294967295 ∷ []) (4294967293 ∷ 1 ∷ 1 ∷ [])
          ∷ [],
      sheet 1 3 2 0 0 4294967295 2 0 0 1 (found 4294967293 0 0),
    ) ∷
    -- two farms: one percent of the largest count of both, 200, for the first and third cell, more than 1 cell for the others
    (
      map_of 1 4 (two_farms default_settings (settings_of (quotient 100 50) (quotient 100 50) (Cells 1)) (0 ∷ 1 ∷ 0 ∷ 1 ∷ []))
          (2 ∷ 1 ∷ 3 ∷ 200 ∷ []) (1 ∷ 1 ∷ 1 ∷ 1 ∷ [])
          ∷ [],
      sheet 1 4 2 0 0 4 4 0 0 0 (found 1 0 0),
    ) ∷
    -- cells too long alone give no greatest, and LS 0 alone does
    (row (too_long ∷ too_long ∷ []) ∷ [], sheet 1 2 0 0 2 0 0 0 0 0 None) ∷
    (row (no_data_factor ∷ 0 ∷ 0 ∷ []) ∷ [], sheet 1 3 0 2 0 0 2 0 0 0 (found 0 0 1)) ∷
    -- ties in a map, and between maps
    (row (7 ∷ 9 ∷ 3 ∷ 9 ∷ []) ∷ [], sheet 1 4 0 0 0 28 4 0 0 0 (found 9 0 1)) ∷
    (row (5 ∷ 8 ∷ []) ∷ row (8 ∷ 1 ∷ []) ∷ [], sheet 2 4 0 0 0 22 4 0 0 0 (found 8 0 1)) ∷
    (row (no_data_factor ∷ []) ∷ row (4 ∷ []) ∷ row (2 ∷ 6 ∷ 6 ∷ []) ∷ row (6 ∷ []) ∷ [], sheet 4 6 0 0 0 24 5 0 0 0 (found 6 2 1)) ∷
    []

pub reports-hold : map (λ (x : List Map × Report). report_of x.0) reports ≡ map (λ (x : List Map × Report). x.1) reports
unfolding reports report_of quotient default_settings
reports-hold = refl

-- ---- joins

-- what comes of a call: its answer, a refusal by number and place, and the report
abbrev Outcome : Type 0
Outcome = Test × Report

abbrev told : Reported → Outcome
told x = (told_by x.answer, x.report)

abbrev accepted : Report → Outcome
accepted report = (passed, report)

abbrev refused : ℕ → ℕ → Report → Outcome
refused number place report = (failed number place, report)

-- the greatest number of 64 bits
abbrev top : ℕ
top = 18446744073709551615

-- so many maps, and nothing else but the greatest
abbrev leading : ℕ → Option Greatest → Report
leading maps greatest = sheet maps 0 0 0 0 0 0 0 0 0 greatest

-- a join: the two reports, and what comes of it
unfoldable pub joins : List ((Report × Report) × Outcome)
joins =
    ((sheet 1 2 3 4 5 6 7 8 9 10 None, sheet 10 20 30 40 50 60 70 80 90 100 None), accepted (sheet 11 22 33 44 55 66 77 88 99 110 None)) ∷
    -- the greatest: only one has it, the second's is greater, the first's is, a tie
    ((leading 3 None, leading 2 (found 0 1 7)), accepted (leading 5 (found 0 4 7))) ∷
    ((leading 3 (found 5 2 1), leading 2 None), accepted (leading 5 (found 5 2 1))) ∷
    ((leading 3 (found 5 2 1), leading 2 (found 6 0 4)), accepted (leading 5 (found 6 3 4))) ∷
    ((leading 3 (found 6 2 1), leading 2 (found 5 0 0)), accepted (leading 5 (found 6 2 1))) ∷
    ((leading 3 (found 5 2 1), leading 2 (found 5 0 0)), accepted (leading 5 (found 5 2 1))) ∷
    -- its map at the end of 64 bits, one more, and one more where it is not kept
    ((leading 5 (found 1 0 0), leading 0 (found 2 (top - 5) 0)), accepted (leading 5 (found 2 top 0))) ∷
    ((leading 6 (found 1 0 0), leading 0 (found 2 (top - 5) 0)), refused 16 0 (leading 6 (found 1 0 0))) ∷
    ((leading 6 (found 2 0 0), leading 0 (found 2 (top - 5) 0)), accepted (leading 6 (found 2 0 0))) ∷
    ((leading 6 (found 1 top top), leading 0 None), accepted (leading 6 (found 1 top top))) ∷
    []

pub joins-hold : map (λ (x : (Report × Report) × Outcome). told (after_join x.0.0 x.0.1)) joins ≡ map (λ (x : (Report × Report) × Outcome). x.1) joins
unfolding joins after_join
joins-hold = refl

-- a report in which one number is n: 0 for the number of maps, then the totals in their order
abbrev one : ℕ → ℕ → Report
one k n =
    sheet (when (eqb k 0) n) (when (eqb k 1) n) (when (eqb k 2) n) (when (eqb k 3) n) (when (eqb k 4) n) (when (eqb k 5) n) (when (eqb k 6) n)
    (when (eqb k 7) n) (when (eqb k 8) n) (when (eqb k 9) n) None

abbrev ten : List ℕ
ten = 0 ∷ 1 ∷ 2 ∷ 3 ∷ 4 ∷ 5 ∷ 6 ∷ 7 ∷ 8 ∷ 9 ∷ []

-- each number up to the end of 64 bits, and one more
pub edges-hold :
    (map (λ k. told (after_join (one k (top - 1)) (one k 1))) ten ≡ map (λ k. accepted (one k top)) ten)
    × (map (λ k. told (after_join (one k top) (one k 1))) ten ≡ map (λ k. refused 16 0 (one k top)) ten)
unfolding after_join when
edges-hold = (refl, refl)

-- ---- additions

-- one cell with count 1 and LS 1
abbrev cell_with : Settings → Map
cell_with settings = map_of 1 1 (one_farm settings) (1 ∷ []) (1 ∷ [])

-- two cells of two farms with these marks
abbrev pair_with : Settings → Settings → List ℕ → Map
pair_with first second marks = map_of 1 2 (two_farms first second marks) (1 ∷ 1 ∷ []) (1 ∷ 1 ∷ [])

-- 0.50 and 1.01
abbrev half : Float
half = quotient 100 50

abbrev above1 : Float
above1 = quotient 100 101

-- an addition: the report and the map, and what comes of it
unfoldable pub additions : List ((Report × Map) × Outcome)
additions =
    ((leading 3 (found 9 2 1), row (9 ∷ 10 ∷ [])), accepted (sheet 4 2 0 0 0 19 2 0 0 0 (found 10 3 1))) ∷
    ((leading 3 (found 10 2 1), row (10 ∷ [])), accepted (sheet 4 1 0 0 0 10 1 0 0 0 (found 10 2 1))) ∷
    -- a record that no list of maps could give
    ((sheet 0 0 0 0 0 7 0 0 0 0 (found 100 9 9), row (10 ∷ [])), accepted (sheet 1 1 0 0 0 17 1 0 0 0 (found 100 9 9))) ∷
    -- 1
    ((leading 3 None, map_of 0 1 (one_farm no_channel) [] []), refused 1 0 (leading 3 None)) ∷
    ((leading 3 None, map_of 1 1025 (one_farm no_channel) [] []), refused 1 0 (leading 3 None)) ∷
    -- 2: the counts, the LS
    ((leading 3 None, map_of 1 2 (one_farm no_channel) (1 ∷ []) (1 ∷ 2 ∷ [])), refused 2 0 (leading 3 None)) ∷
    ((leading 3 None, map_of 1 2 (one_farm no_channel) (1 ∷ 2 ∷ []) (1 ∷ 2 ∷ 3 ∷ [])), refused 2 0 (leading 3 None)) ∷
    -- 4: 1.01 as the low cutoff, as both, as the high one, and 100.1 percent
    ((leading 3 None, cell_with (settings_of above1 half NoChannel)), refused 4 1 (leading 3 None)) ∷
    ((leading 3 None, cell_with (settings_of above1 above1 NoChannel)), refused 4 1 (leading 3 None)) ∷
    ((leading 3 None, cell_with (settings_of half above1 NoChannel)), refused 4 2 (leading 3 None)) ∷
    ((leading 3 None, cell_with (settings_of half half (Percentage (quotient 10 1001)))), refused 4 3 (leading 3 None)) ∷
    -- 16: the number of maps, the sum; 4 before 16
    ((leading (top - 1) None, row (5 ∷ [])), accepted (sheet top 1 0 0 0 5 1 0 0 0 (found 5 (top - 1) 0))) ∷
    ((leading top None, row (no_data_factor ∷ [])), refused 16 0 (leading top None)) ∷
    ((one 5 (top - 5), row (5 ∷ [])), accepted (sheet 1 1 0 0 0 top 1 0 0 0 (found 5 0 0))) ∷
    ((one 5 (top - 4), row (5 ∷ [])), refused 16 0 (one 5 (top - 4))) ∷
    ((leading top None, cell_with (settings_of half above1 NoChannel)), refused 4 2 (leading top None)) ∷
    -- 1 before 2, 2 before 4
    ((leading 3 None, map_of 0 1 (one_farm no_channel) (1 ∷ []) []), refused 1 0 (leading 3 None)) ∷
    ((leading 3 None, map_of 1 1 (one_farm (settings_of above1 half NoChannel)) [] []), refused 2 0 (leading 3 None)) ∷
    -- two farms. 2: the marks; farm 1's high cutoff, and its channel rule before a mark above 1; such a mark before 16
    ((leading 3 None, pair_with no_channel no_channel (0 ∷ [])), refused 2 0 (leading 3 None)) ∷
    ((leading 3 None, pair_with no_channel (settings_of half above1 NoChannel) (0 ∷ 0 ∷ [])), refused 4 5 (leading 3 None)) ∷
    ((leading 3 None, pair_with no_channel (settings_of half half (Percentage (quotient 10 1001))) (2 ∷ 0 ∷ [])), refused 4 6 (leading 3 None)) ∷
    ((leading top None, pair_with no_channel no_channel (1 ∷ 2 ∷ [])), refused 19 1 (leading top None)) ∷
    []

pub additions-hold : map (λ (x : (Report × Map) × Outcome). told (after_add x.0.0 x.0.1)) additions ≡ map (λ (x : (Report × Map) × Outcome). x.1) additions
unfolding additions after_add quotient when mark_test
additions-hold = refl
