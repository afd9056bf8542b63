-- Directions drawn by someone else, on the pit of document 01: another way out, a code that points uphill, and a ring. antt computes each side. Assumes nothing.
use mathlib.Core.Path.{refl}
use mathlib.Core.List.{List, [], ◌∷◌}
use lib.IntN.{ℤ, pos}
use Rattle.text.specs.Ranges.{size_test, length_test, side_test, height_test}
use Rattle.settings.specs.Settings.{settings_test}
use Rattle.terrain.specs.Given.{code_test, ring_test}
use Rattle.factor.specs.Answers.{answer, after}
use Rattle.fields.specs.Claims.{Claim, drawn, drawn_wrong, half, All}

abbrev pit : List ℤ
pit = pos 500 ∷ pos 500 ∷ pos 500 ∷ pos 500 ∷ pos 200 ∷ pos 400 ∷ pos 500 ∷ pos 500 ∷ pos 500 ∷ []

unfoldable pub claims : List Claim
claims =
    -- the cell in the north-east leaves the map, though it has lower neighbours; all else is as we would draw it
    drawn 3 3 1000 half pit (2 ∷ 4 ∷ 0 ∷ 1 ∷ 1 ∷ 0 ∷ 128 ∷ 64 ∷ 64 ∷ [])
    (record {
      valids = 9;
      longest = 2;
      filled = pos 500 ∷ pos 500 ∷ pos 500 ∷ pos 500 ∷ pos 400 ∷ pos 400 ∷ pos 500 ∷ pos 500 ∷ pos 500 ∷ [];
      direction = 2 ∷ 4 ∷ 0 ∷ 1 ∷ 1 ∷ 0 ∷ 128 ∷ 64 ∷ 64 ∷ [];
      count = 1 ∷ 1 ∷ 1 ∷ 1 ∷ 6 ∷ 8 ∷ 1 ∷ 1 ∷ 1 ∷ [];
      lengths = 7071 ∷ 5000 ∷ 5000 ∷ 5000 ∷ 0 ∷ 5000 ∷ 7071 ∷ 5000 ∷ 5000 ∷ [];
      factors = 39424 ∷ 54379 ∷ 4810 ∷ 54379 ∷ 0 ∷ 4810 ∷ 39424 ∷ 54379 ∷ 54379 ∷ [];
    })
    ∷
    -- the bottom of the pit is at 400 once it is filled: from there no way leads up to 500
    drawn_wrong 3 3 1000 half pit (2 ∷ 4 ∷ 4 ∷ 1 ∷ 16 ∷ 0 ∷ 128 ∷ 64 ∷ 64 ∷ []) 17 4
    ∷
    -- the two cells at 400 point at each other
    drawn_wrong 3 3 1000 half pit (2 ∷ 4 ∷ 4 ∷ 1 ∷ 1 ∷ 16 ∷ 128 ∷ 64 ∷ 64 ∷ []) 18 4
    ∷ []

pub claims-hold : All claims
unfolding claims answer after size_test length_test side_test settings_test height_test code_test ring_test
claims-hold = ((refl, refl), ((refl, refl), ((refl, refl), tt)))
