-- RULES 8: all that is marked P, as one statement over a list. antt computes each side. Assumes nothing.
use mathlib.Core.Path.{refl}
use mathlib.Core.List.{List, [], ◌∷◌}
use lib.IntN.{pos}
use Rattle.text.specs.Ranges.{size_test, length_test, side_test, height_test}
use Rattle.settings.specs.Settings.{settings_test}
use Rattle.factor.specs.Exponent.{exponent_of}
use Rattle.factor.specs.LengthFactor.{length_factor}
use Rattle.factor.specs.Answers.{answer, after}
use Rattle.fields.specs.Claims.{Claim, mapped, reaches, east, settings, half, All}

unfoldable pub papers : List Claim
papers =
    -- "1 by 1, height 0: direction 0, count 1, length 5,000, longest 0"
    mapped 1 1 1000 half (pos 0 ∷ [])
    (record {
      valids = 1;
      longest = 0;
      filled = pos 0 ∷ [];
      direction = 0 ∷ [];
      count = 1 ∷ [];
      lengths = 5000 ∷ [];
      factors = 4810 ∷ [];
    })
    ∷
    -- "strip 9 8 7 5: lengths 5,000, 15,000, 25,000, 0"; "both cutoffs 1.0: the last is 35,000"
    mapped 1 4 1000 half (pos 900 ∷ pos 800 ∷ pos 700 ∷ pos 500 ∷ [])
    (record {
      valids = 4;
      longest = 3;
      filled = pos 900 ∷ pos 800 ∷ pos 700 ∷ pos 500 ∷ [];
      direction = 1 ∷ 1 ∷ 1 ∷ 0 ∷ [];
      count = 1 ∷ 2 ∷ 3 ∷ 4 ∷ [];
      lengths = 5000 ∷ 15000 ∷ 25000 ∷ 0 ∷ [];
      factors = 54379 ∷ 94874 ∷ 367926 ∷ 0 ∷ [];
    })
    ∷
    mapped 1 4 1000 (settings 100 100) (pos 900 ∷ pos 800 ∷ pos 700 ∷ pos 500 ∷ [])
    (record {
      valids = 4;
      longest = 3;
      filled = pos 900 ∷ pos 800 ∷ pos 700 ∷ pos 500 ∷ [];
      direction = 1 ∷ 1 ∷ 1 ∷ 0 ∷ [];
      count = 1 ∷ 2 ∷ 3 ∷ 4 ∷ [];
      lengths = 5000 ∷ 15000 ∷ 25000 ∷ 35000 ∷ [];
      factors = 54379 ∷ 94874 ∷ 367926 ∷ 7085 ∷ [];
    })
    ∷
    -- "strip 9 7 6: lengths 5,000, 0, 0"; "high cutoff 0.51: 5,000, 15,000, 0"
    mapped 1 3 1000 half (pos 900 ∷ pos 700 ∷ pos 600 ∷ [])
    (record {
      valids = 3;
      longest = 2;
      filled = pos 900 ∷ pos 700 ∷ pos 600 ∷ [];
      direction = 1 ∷ 1 ∷ 0 ∷ [];
      count = 1 ∷ 2 ∷ 3 ∷ [];
      lengths = 5000 ∷ 0 ∷ 0 ∷ [];
      factors = 163137 ∷ 0 ∷ 0 ∷ [];
    })
    ∷
    mapped 1 3 1000 (settings 50 51) (pos 900 ∷ pos 700 ∷ pos 600 ∷ [])
    (record {
      valids = 3;
      longest = 2;
      filled = pos 900 ∷ pos 700 ∷ pos 600 ∷ [];
      direction = 1 ∷ 1 ∷ 0 ∷ [];
      count = 1 ∷ 2 ∷ 3 ∷ [];
      lengths = 5000 ∷ 15000 ∷ 0 ∷ [];
      factors = 163137 ∷ 94874 ∷ 0 ∷ [];
    })
    ∷
    -- "drops 100 cm E and 141 SE: E"; "100 and 142: SE"
    mapped 2 2 1000 half (pos 1000 ∷ pos 900 ∷ pos 1000 ∷ pos 859 ∷ [])
    (record {
      valids = 4;
      longest = 2;
      filled = pos 1000 ∷ pos 900 ∷ pos 1000 ∷ pos 859 ∷ [];
      direction = 1 ∷ 4 ∷ 1 ∷ 0 ∷ [];
      count = 1 ∷ 2 ∷ 1 ∷ 4 ∷ [];
      lengths = 5000 ∷ 0 ∷ 5000 ∷ 0 ∷ [];
      factors = 54379 ∷ 0 ∷ 92214 ∷ 0 ∷ [];
    })
    ∷
    mapped 2 2 1000 half (pos 1000 ∷ pos 900 ∷ pos 1000 ∷ pos 858 ∷ [])
    (record {
      valids = 4;
      longest = 1;
      filled = pos 1000 ∷ pos 900 ∷ pos 1000 ∷ pos 858 ∷ [];
      direction = 2 ∷ 4 ∷ 1 ∷ 0 ∷ [];
      count = 1 ∷ 1 ∷ 1 ∷ 4 ∷ [];
      lengths = 7071 ∷ 5000 ∷ 5000 ∷ 0 ∷ [];
      factors = 64792 ∷ 19855 ∷ 93295 ∷ 0 ∷ [];
    })
    ∷
    -- "22,128 mm gives t = 99, 22,129 gives 100, for every exponent. For k = 5, 88,513 gives 199 and 88,514 gives 200."
    reaches 5 22128 99
    ∷
    reaches 4 22128 99
    ∷
    reaches 3 22128 99
    ∷
    reaches 2 22128 99
    ∷
    reaches 5 22129 100
    ∷
    reaches 4 22129 100
    ∷
    reaches 3 22129 100
    ∷
    reaches 2 22129 100
    ∷
    reaches 5 88513 199
    ∷
    reaches 5 88514 200
    ∷
    -- "east drops 50, 49, 31, 30, 10, 9 cm: k = 5, 4, 4, 3, 3, 2"
    east 50 5
    ∷
    east 49 4
    ∷
    east 31 4
    ∷
    east 30 3
    ∷
    east 10 3
    ∷
    east 9 2
    ∷
    -- the pit
    mapped 3 3 1000 half (pos 500 ∷ pos 500 ∷ pos 500 ∷ pos 500 ∷ pos 200 ∷ pos 400 ∷ pos 500 ∷ pos 500 ∷ pos 500 ∷ [])
    (record {
      valids = 9;
      longest = 2;
      filled = pos 500 ∷ pos 500 ∷ pos 500 ∷ pos 500 ∷ pos 400 ∷ pos 400 ∷ pos 500 ∷ pos 500 ∷ pos 500 ∷ [];
      direction = 2 ∷ 4 ∷ 4 ∷ 1 ∷ 1 ∷ 0 ∷ 128 ∷ 64 ∷ 64 ∷ [];
      count = 1 ∷ 1 ∷ 1 ∷ 1 ∷ 6 ∷ 9 ∷ 1 ∷ 1 ∷ 1 ∷ [];
      lengths = 7071 ∷ 5000 ∷ 5000 ∷ 5000 ∷ 0 ∷ 5000 ∷ 7071 ∷ 5000 ∷ 5000 ∷ [];
      factors = 39424 ∷ 54379 ∷ 54379 ∷ 54379 ∷ 0 ∷ 4810 ∷ 39424 ∷ 54379 ∷ 54379 ∷ [];
    })
    ∷
    []

pub papers-hold : All papers
unfolding papers answer after size_test length_test side_test settings_test height_test length_factor exponent_of
papers-hold =
    ((refl, refl), ((refl, refl), ((refl, refl), ((refl, refl), ((refl, refl), ((refl, refl), ((refl, refl), (refl, (refl, (refl, (refl, (refl, (refl, (refl, (refl, (refl, (refl, (refl, (refl, (refl, (refl, (refl, (refl, ((refl, refl), tt))))))))))))))))))))))))
