-- RULES 8: the pit's sheet, byte by byte, and the sheets of a few other texts, computed from the definitions. Assumes nothing.
use mathlib.Core.Path.{◌≡◌, refl}
use mathlib.Core.List.{List, [], ◌∷◌, map}
use Prim.Native.String.{String}
use Rattle.text.specs.Bytes.{bytes}
use Rattle.text.specs.Words.{run, word_start, word_end, word}
use Rattle.text.specs.Numbers.{value, count_form_at, decimals, number_at, first_comma, comma_decimal, read, count, number, measure}
use Rattle.text.specs.Headers.{named, name, corner, side, field, any_measure, no_data, extent, corners, side_and_no_data, head, header}
use Rattle.text.specs.Heights.{height, heights, end, body, grid}
use Rattle.text.specs.Ranges.{size_test, length_test, side_test, height_test}
use Rattle.settings.specs.Settings.{quotient, settings_test}
use Rattle.settings.specs.declared.Settings.{Settings}
use Rattle.settings.specs.declared.Channel.TheVariants.{NoChannel}
use Rattle.settings.specs.declared.Formula.TheVariants.{Older}
use Rattle.sheet.specs.Sheet.{sheet_of}

-- cutoffs 0.5, no channels and the older formula
unfoldable pub half : Settings
unfolding quotient
half = record { low = quotient 100 50; high = quotient 100 50; channel = NoChannel; formula = Older }

-- a text and its sheet
pub record Example : Type 0 where
  pub text : String
  pub sheet : String

unfoldable pub examples : List Example
examples =
    -- "P: the pit below"
    record {
      text = "ncols 3 nrows 3 xllcorner 0 yllcorner 0 cellsize 10\n5 5 5\n5 2 4\n5 5 5\n";
      sheet = "3 3 1000 9 2\n0 0 500 500 2 1 7071 39424\n0 1 500 500 4 1 5000 54379\n0 2 500 500 4 1 5000 54379\n1 0 500 500 1 1 5000 54379\n1 1 200 400 1 6 0 0\n1 2 400 400 0 9 5000 4810\n2 0 500 500 128 1 7071 39424\n2 1 500 500 64 1 5000 54379\n2 2 500 500 64 1 5000 54379\n";
    } ∷
    -- "A NoData cell shows row, column and six times `-`"; a height below 0
    record { text = "ncols 2 nrows 1 xllcorner 0 yllcorner 0 cellsize 10\n-9999 -0.05"; sheet = "1 2 1000 1 0\n0 0 - - - - - -\n0 1 -5 -5 0 1 5000 4810\n" } ∷
    -- "too long shows `long`"
    record { text = "ncols 1 nrows 1 xllcorner 0 yllcorner 0 cellsize 1000\n5"; sheet = "1 1 100000 1 0\n0 0 500 500 0 1 5000 long\n" } ∷
    -- "A refusal prints `refused 7 at 52` and nothing else."
    record { text = "ncols 1 nrows 1 xllcorner 0 yllcorner 0 cellsize 10\n,5\n"; sheet = "refused 7 at 52\n" } ∷
    record { text = "ncols 1 nrows 1 xllcorner 0 yllcorner 0 cellsize 10\n12,5\n"; sheet = "refused 12 at 54\n" } ∷
    -- "after a good header, more than 2,048 cells (place 0)": 3,072 cells, and 2,048 of them, whose heights are then missing
    record { text = "ncols 1024 nrows 3 xllcorner 0 yllcorner 0 cellsize 10"; sheet = "refused 11 at 0\n" } ∷
    record { text = "ncols 1024 nrows 2 xllcorner 0 yllcorner 0 cellsize 10"; sheet = "refused 9 at 54\n" } ∷
    record { text = "ncols 1024 nrows 3 xllcorner 0 yllcorner 0 cellsize 0"; sheet = "refused 3 at 52\n" } ∷ []

pub examples-hold : map (λ (x : Example). sheet_of (bytes x.text) half) examples ≡ map (λ (x : Example). bytes x.sheet) examples
unfolding examples sheet_of bytes half run word_start word_end word value count_form_at decimals number_at first_comma comma_decimal read count number measure named name corner side field any_measure no_data extent corners side_and_no_data head header height heights end body grid size_test length_test side_test settings_test height_test
examples-hold = refl
