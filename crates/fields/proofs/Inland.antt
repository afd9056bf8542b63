-- Fields with pits in pits, flats, ties and NoData, and refusals. antt computes each side. Assumes nothing.
use mathlib.Core.Path.{refl}
use mathlib.Core.List.{List, [], ◌∷◌}
use lib.IntN.{pos, negsuc}
use Prim.Native.Nat.{ℕ}
use Rattle.text.specs.Ranges.{size_test, length_test, side_test, height_test}
use Rattle.settings.specs.declared.Channel.{Channel}
use Rattle.settings.specs.declared.Channel.TheVariants.{Percentage, NoChannel}
use Rattle.settings.specs.declared.Formula.TheVariants.{Older}
use Rattle.settings.specs.declared.Settings.{Settings}
use Rattle.settings.specs.Settings.{quotient, settings_test}
use Rattle.terrain.specs.Cells.{no_data}
use Rattle.factor.specs.Answers.{answer, after}
use Rattle.fields.specs.Claims.{Claim, mapped, refused_at, half, All}

-- cutoffs in thousandths
abbrev thousandths : ℕ → ℕ → Channel → Settings
thousandths low high channel = record { low = quotient 1000 low; high = quotient 1000 high; channel = channel; formula = Older }

unfoldable pub inland : List Claim
inland =
    -- pits in pits, flats, ties and NoData
    mapped 5 5 1000 half (pos 900 ∷ pos 900 ∷ pos 900 ∷ pos 900 ∷ pos 900 ∷ pos 900 ∷ pos 300 ∷ pos 600 ∷ pos 500 ∷ pos 900 ∷ pos 900 ∷ pos 600 ∷ pos 100 ∷ pos 600 ∷ pos 700 ∷ pos 900 ∷ pos 400 ∷ pos 600 ∷ pos 200 ∷ pos 900 ∷ pos 900 ∷ pos 900 ∷ pos 900 ∷ pos 900 ∷ pos 900 ∷ [])
    (record {
      valids = 25;
      longest = 4;
      filled = pos 900 ∷ pos 900 ∷ pos 900 ∷ pos 900 ∷ pos 900 ∷ pos 900 ∷ pos 700 ∷ pos 700 ∷ pos 700 ∷ pos 900 ∷ pos 900 ∷ pos 700 ∷ pos 700 ∷ pos 700 ∷ pos 700 ∷ pos 900 ∷ pos 700 ∷ pos 700 ∷ pos 700 ∷ pos 900 ∷ pos 900 ∷ pos 900 ∷ pos 900 ∷ pos 900 ∷ pos 900 ∷ [];
      direction = 2 ∷ 4 ∷ 4 ∷ 4 ∷ 8 ∷ 1 ∷ 1 ∷ 1 ∷ 2 ∷ 4 ∷ 1 ∷ 1 ∷ 1 ∷ 1 ∷ 0 ∷ 1 ∷ 1 ∷ 1 ∷ 128 ∷ 16 ∷ 128 ∷ 64 ∷ 64 ∷ 64 ∷ 32 ∷ [];
      count = 1 ∷ 1 ∷ 1 ∷ 1 ∷ 1 ∷ 1 ∷ 4 ∷ 6 ∷ 9 ∷ 1 ∷ 1 ∷ 2 ∷ 3 ∷ 4 ∷ 25 ∷ 1 ∷ 4 ∷ 6 ∷ 10 ∷ 1 ∷ 1 ∷ 1 ∷ 1 ∷ 1 ∷ 1 ∷ [];
      lengths = 7071 ∷ 5000 ∷ 5000 ∷ 5000 ∷ 7071 ∷ 5000 ∷ 0 ∷ 5000 ∷ 7071 ∷ 5000 ∷ 5000 ∷ 0 ∷ 5000 ∷ 5000 ∷ 5000 ∷ 5000 ∷ 0 ∷ 5000 ∷ 7071 ∷ 5000 ∷ 7071 ∷ 5000 ∷ 5000 ∷ 5000 ∷ 7071 ∷ [];
      factors = 111160 ∷ 163137 ∷ 163137 ∷ 163137 ∷ 111160 ∷ 163137 ∷ 0 ∷ 4810 ∷ 5135 ∷ 163137 ∷ 163137 ∷ 0 ∷ 4810 ∷ 4810 ∷ 4810 ∷ 163137 ∷ 0 ∷ 4810 ∷ 5135 ∷ 163137 ∷ 111160 ∷ 163137 ∷ 163137 ∷ 163137 ∷ 111160 ∷ [];
    })
    ∷
    mapped 5 5 1000 half (pos 400 ∷ pos 400 ∷ pos 400 ∷ pos 400 ∷ pos 400 ∷ pos 400 ∷ pos 100 ∷ pos 100 ∷ no_data ∷ pos 400 ∷ pos 400 ∷ pos 100 ∷ pos 700 ∷ pos 100 ∷ pos 400 ∷ pos 400 ∷ pos 100 ∷ pos 100 ∷ pos 100 ∷ pos 300 ∷ pos 400 ∷ pos 400 ∷ pos 400 ∷ pos 400 ∷ pos 400 ∷ [])
    (record {
      valids = 24;
      longest = 3;
      filled = pos 400 ∷ pos 400 ∷ pos 400 ∷ pos 400 ∷ pos 400 ∷ pos 400 ∷ pos 100 ∷ pos 100 ∷ no_data ∷ pos 400 ∷ pos 400 ∷ pos 100 ∷ pos 700 ∷ pos 100 ∷ pos 400 ∷ pos 400 ∷ pos 100 ∷ pos 100 ∷ pos 100 ∷ pos 300 ∷ pos 400 ∷ pos 400 ∷ pos 400 ∷ pos 400 ∷ pos 400 ∷ [];
      direction = 2 ∷ 4 ∷ 4 ∷ 8 ∷ 0 ∷ 1 ∷ 1 ∷ 0 ∷ 255 ∷ 8 ∷ 1 ∷ 128 ∷ 1 ∷ 0 ∷ 16 ∷ 1 ∷ 1 ∷ 128 ∷ 64 ∷ 16 ∷ 128 ∷ 64 ∷ 64 ∷ 64 ∷ 32 ∷ [];
      count = 1 ∷ 1 ∷ 1 ∷ 1 ∷ 1 ∷ 1 ∷ 4 ∷ 9 ∷ 0 ∷ 1 ∷ 1 ∷ 2 ∷ 1 ∷ 14 ∷ 1 ∷ 1 ∷ 4 ∷ 6 ∷ 4 ∷ 1 ∷ 1 ∷ 1 ∷ 1 ∷ 1 ∷ 1 ∷ [];
      lengths = 7071 ∷ 5000 ∷ 5000 ∷ 7071 ∷ 5000 ∷ 5000 ∷ 0 ∷ 5000 ∷ 0 ∷ 7071 ∷ 5000 ∷ 0 ∷ 5000 ∷ 5000 ∷ 5000 ∷ 5000 ∷ 0 ∷ 7071 ∷ 0 ∷ 5000 ∷ 7071 ∷ 5000 ∷ 5000 ∷ 5000 ∷ 7071 ∷ [];
      factors = 213416 ∷ 317767 ∷ 317767 ∷ 213416 ∷ 4810 ∷ 317767 ∷ 0 ∷ 4810 ∷ 4294967295 ∷ 213416 ∷ 317767 ∷ 0 ∷ 925383 ∷ 4810 ∷ 317767 ∷ 317767 ∷ 0 ∷ 5135 ∷ 0 ∷ 163137 ∷ 213416 ∷ 317767 ∷ 317767 ∷ 317767 ∷ 213416 ∷ [];
    })
    ∷
    mapped 5 5 1000 half (pos 0 ∷ pos 0 ∷ pos 0 ∷ pos 0 ∷ pos 0 ∷ pos 0 ∷ pos 0 ∷ pos 0 ∷ pos 0 ∷ pos 0 ∷ pos 0 ∷ pos 0 ∷ pos 0 ∷ pos 0 ∷ pos 0 ∷ pos 0 ∷ pos 0 ∷ pos 0 ∷ pos 0 ∷ pos 0 ∷ pos 0 ∷ pos 0 ∷ pos 0 ∷ pos 0 ∷ pos 0 ∷ [])
    (record {
      valids = 25;
      longest = 2;
      filled = pos 0 ∷ pos 0 ∷ pos 0 ∷ pos 0 ∷ pos 0 ∷ pos 0 ∷ pos 0 ∷ pos 0 ∷ pos 0 ∷ pos 0 ∷ pos 0 ∷ pos 0 ∷ pos 0 ∷ pos 0 ∷ pos 0 ∷ pos 0 ∷ pos 0 ∷ pos 0 ∷ pos 0 ∷ pos 0 ∷ pos 0 ∷ pos 0 ∷ pos 0 ∷ pos 0 ∷ pos 0 ∷ [];
      direction = 0 ∷ 0 ∷ 0 ∷ 0 ∷ 0 ∷ 0 ∷ 8 ∷ 32 ∷ 1 ∷ 0 ∷ 0 ∷ 8 ∷ 1 ∷ 1 ∷ 0 ∷ 0 ∷ 2 ∷ 2 ∷ 1 ∷ 0 ∷ 0 ∷ 0 ∷ 0 ∷ 0 ∷ 0 ∷ [];
      count = 1 ∷ 2 ∷ 1 ∷ 1 ∷ 1 ∷ 1 ∷ 1 ∷ 1 ∷ 1 ∷ 2 ∷ 2 ∷ 1 ∷ 1 ∷ 2 ∷ 3 ∷ 2 ∷ 1 ∷ 1 ∷ 1 ∷ 2 ∷ 1 ∷ 1 ∷ 2 ∷ 2 ∷ 1 ∷ [];
      lengths = 5000 ∷ 5000 ∷ 5000 ∷ 5000 ∷ 5000 ∷ 5000 ∷ 7071 ∷ 7071 ∷ 5000 ∷ 5000 ∷ 5000 ∷ 7071 ∷ 5000 ∷ 5000 ∷ 5000 ∷ 5000 ∷ 7071 ∷ 7071 ∷ 5000 ∷ 5000 ∷ 5000 ∷ 5000 ∷ 5000 ∷ 5000 ∷ 5000 ∷ [];
      factors = 4810 ∷ 4810 ∷ 4810 ∷ 4810 ∷ 4810 ∷ 4810 ∷ 5135 ∷ 5135 ∷ 4810 ∷ 4810 ∷ 4810 ∷ 5135 ∷ 4810 ∷ 4810 ∷ 4810 ∷ 4810 ∷ 5135 ∷ 5135 ∷ 4810 ∷ 4810 ∷ 4810 ∷ 4810 ∷ 4810 ∷ 4810 ∷ 4810 ∷ [];
    })
    ∷
    mapped 2 3 1000 half (no_data ∷ no_data ∷ no_data ∷ no_data ∷ no_data ∷ no_data ∷ [])
    (record {
      valids = 0;
      longest = 0;
      filled = no_data ∷ no_data ∷ no_data ∷ no_data ∷ no_data ∷ no_data ∷ [];
      direction = 255 ∷ 255 ∷ 255 ∷ 255 ∷ 255 ∷ 255 ∷ [];
      count = 0 ∷ 0 ∷ 0 ∷ 0 ∷ 0 ∷ 0 ∷ [];
      lengths = 0 ∷ 0 ∷ 0 ∷ 0 ∷ 0 ∷ 0 ∷ [];
      factors = 4294967295 ∷ 4294967295 ∷ 4294967295 ∷ 4294967295 ∷ 4294967295 ∷ 4294967295 ∷ [];
    })
    ∷
    mapped 4 6 1000 half (pos 100 ∷ pos 300 ∷ pos 100 ∷ pos 100 ∷ pos 100 ∷ pos 300 ∷ pos 100 ∷ pos 100 ∷ pos 300 ∷ pos 0 ∷ pos 100 ∷ pos 0 ∷ pos 100 ∷ pos 100 ∷ pos 0 ∷ pos 0 ∷ pos 100 ∷ pos 0 ∷ pos 0 ∷ pos 100 ∷ pos 300 ∷ pos 100 ∷ pos 300 ∷ pos 100 ∷ [])
    (record {
      valids = 24;
      longest = 3;
      filled = pos 100 ∷ pos 300 ∷ pos 100 ∷ pos 100 ∷ pos 100 ∷ pos 300 ∷ pos 100 ∷ pos 100 ∷ pos 300 ∷ pos 100 ∷ pos 100 ∷ pos 0 ∷ pos 100 ∷ pos 100 ∷ pos 100 ∷ pos 100 ∷ pos 100 ∷ pos 0 ∷ pos 0 ∷ pos 100 ∷ pos 300 ∷ pos 100 ∷ pos 300 ∷ pos 100 ∷ [];
      direction = 0 ∷ 1 ∷ 0 ∷ 0 ∷ 2 ∷ 4 ∷ 0 ∷ 4 ∷ 1 ∷ 1 ∷ 1 ∷ 0 ∷ 4 ∷ 8 ∷ 2 ∷ 1 ∷ 1 ∷ 0 ∷ 0 ∷ 16 ∷ 1 ∷ 0 ∷ 128 ∷ 64 ∷ [];
      count = 1 ∷ 1 ∷ 2 ∷ 1 ∷ 1 ∷ 1 ∷ 1 ∷ 1 ∷ 1 ∷ 2 ∷ 3 ∷ 6 ∷ 1 ∷ 2 ∷ 1 ∷ 1 ∷ 2 ∷ 5 ∷ 5 ∷ 1 ∷ 1 ∷ 3 ∷ 1 ∷ 1 ∷ [];
      lengths = 5000 ∷ 5000 ∷ 0 ∷ 5000 ∷ 7071 ∷ 5000 ∷ 5000 ∷ 5000 ∷ 5000 ∷ 0 ∷ 10000 ∷ 0 ∷ 5000 ∷ 15000 ∷ 7071 ∷ 5000 ∷ 15000 ∷ 0 ∷ 0 ∷ 5000 ∷ 5000 ∷ 5000 ∷ 7071 ∷ 5000 ∷ [];
      factors = 4810 ∷ 163137 ∷ 0 ∷ 4810 ∷ 39424 ∷ 317767 ∷ 4810 ∷ 4810 ∷ 163137 ∷ 0 ∷ 77519 ∷ 0 ∷ 54379 ∷ 57728 ∷ 5135 ∷ 4810 ∷ 94874 ∷ 0 ∷ 0 ∷ 54379 ∷ 163137 ∷ 4810 ∷ 213416 ∷ 54379 ∷ [];
    })
    ∷
    mapped 5 5 1000 half (negsuc 299 ∷ negsuc 99 ∷ negsuc 99 ∷ pos 400 ∷ pos 400 ∷ negsuc 299 ∷ negsuc 299 ∷ negsuc 299 ∷ negsuc 99 ∷ negsuc 99 ∷ pos 200 ∷ pos 100 ∷ pos 400 ∷ negsuc 99 ∷ pos 200 ∷ pos 200 ∷ negsuc 299 ∷ negsuc 499 ∷ pos 200 ∷ pos 200 ∷ pos 200 ∷ pos 100 ∷ pos 200 ∷ pos 200 ∷ negsuc 99 ∷ [])
    (record {
      valids = 25;
      longest = 6;
      filled = negsuc 299 ∷ negsuc 99 ∷ negsuc 99 ∷ pos 400 ∷ pos 400 ∷ negsuc 299 ∷ negsuc 299 ∷ negsuc 299 ∷ negsuc 99 ∷ negsuc 99 ∷ pos 200 ∷ pos 100 ∷ pos 400 ∷ negsuc 99 ∷ pos 200 ∷ pos 200 ∷ negsuc 99 ∷ negsuc 99 ∷ pos 200 ∷ pos 200 ∷ pos 200 ∷ pos 100 ∷ pos 200 ∷ pos 200 ∷ negsuc 99 ∷ [];
      direction = 0 ∷ 4 ∷ 4 ∷ 4 ∷ 4 ∷ 0 ∷ 16 ∷ 16 ∷ 16 ∷ 0 ∷ 64 ∷ 64 ∷ 64 ∷ 32 ∷ 16 ∷ 1 ∷ 1 ∷ 128 ∷ 16 ∷ 4 ∷ 128 ∷ 64 ∷ 64 ∷ 1 ∷ 0 ∷ [];
      count = 1 ∷ 1 ∷ 1 ∷ 1 ∷ 1 ∷ 19 ∷ 17 ∷ 14 ∷ 2 ∷ 2 ∷ 1 ∷ 1 ∷ 1 ∷ 9 ∷ 1 ∷ 1 ∷ 4 ∷ 7 ∷ 1 ∷ 1 ∷ 1 ∷ 1 ∷ 1 ∷ 1 ∷ 3 ∷ [];
      lengths = 5000 ∷ 5000 ∷ 5000 ∷ 5000 ∷ 5000 ∷ 5000 ∷ 5000 ∷ 0 ∷ 0 ∷ 0 ∷ 5000 ∷ 5000 ∷ 5000 ∷ 21213 ∷ 5000 ∷ 5000 ∷ 0 ∷ 7071 ∷ 5000 ∷ 5000 ∷ 7071 ∷ 5000 ∷ 5000 ∷ 5000 ∷ 0 ∷ [];
      factors = 4810 ∷ 163137 ∷ 163137 ∷ 713084 ∷ 713084 ∷ 4810 ∷ 4810 ∷ 0 ∷ 0 ∷ 0 ∷ 713084 ∷ 505673 ∷ 1135191 ∷ 192545 ∷ 317767 ∷ 317767 ∷ 0 ∷ 5135 ∷ 317767 ∷ 317767 ∷ 213416 ∷ 163137 ∷ 317767 ∷ 317767 ∷ 0 ∷ [];
    })
    ∷
    -- refusals, also of two faults at once: the first in the order 1, 2, 3, 4, 5 decides
    refused_at 0 2 0 half (pos 0 ∷ pos 0 ∷ []) 1 0
    ∷
    refused_at 1 1025 1000 half (pos 0 ∷ pos 0 ∷ []) 1 0
    ∷
    refused_at 2 2 1000 half (pos 0 ∷ pos 900001 ∷ []) 2 0
    ∷
    refused_at 1 2 100001 half (pos 0 ∷ []) 2 0
    ∷
    refused_at 1 2 0 (thousandths 285 500 NoChannel) (pos 0 ∷ pos 0 ∷ []) 3 0
    ∷
    refused_at 1 2 100001 half (pos 0 ∷ pos 900001 ∷ []) 3 0
    ∷
    refused_at 2 1 1 (thousandths 285 1010 NoChannel) (pos 0 ∷ pos 900001 ∷ []) 4 1
    ∷
    refused_at 2 1 100000 (thousandths 290 1010 (Percentage (quotient 100 5))) (pos 0 ∷ pos 0 ∷ []) 4 2
    ∷
    refused_at 2 1 1000 (thousandths 500 500 (Percentage (quotient 100 5))) (pos 900001 ∷ pos 0 ∷ []) 4 3
    ∷
    refused_at 2 1 1000 half (pos 900000 ∷ negsuc 50000 ∷ []) 5 1
    ∷
    refused_at 1 2 1000 half (pos 900001 ∷ negsuc 999898 ∷ []) 5 0
    ∷
    []

pub inland-hold : All inland
unfolding inland answer after size_test length_test side_test settings_test height_test
inland-hold =
    ((refl, refl), ((refl, refl), ((refl, refl), ((refl, refl), ((refl, refl), ((refl, refl), ((refl, refl), ((refl, refl), ((refl, refl), ((refl, refl), ((refl, refl), ((refl, refl), ((refl, refl), ((refl, refl), ((refl, refl), ((refl, refl), ((refl, refl), tt)))))))))))))))))
