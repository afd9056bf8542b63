-- Two farms on one map: each cell by its own farm's settings, the percentage of the whole map's largest count, and the order of the refusals.
-- antt computes each side. Assumes nothing.
use mathlib.Core.Path.{refl}
use mathlib.Core.List.{List, [], ◌∷◌}
use Prim.Native.Nat.{ℕ}
use lib.IntN.{ℤ, pos}
use Rattle.text.specs.Quantities.{no_data_height}
use Rattle.text.specs.Ranges.{size_test, length_test, side_test, height_test}
use Rattle.settings.specs.declared.Channel.{Channel}
use Rattle.settings.specs.declared.Channel.TheVariants.{Percentage, Cells}
use Rattle.settings.specs.declared.Formula.TheVariants.{Older, Newer}
use Rattle.settings.specs.declared.Settings.{Settings}
use Rattle.settings.specs.Settings.{quotient, settings_test}
use Rattle.terrain.specs.Given.{code_test, ring_test}
use Rattle.factor.specs.Farms.{mark_test}
use Rattle.factor.specs.Answers.{answer, after}
use Rattle.fields.specs.Claims.{Claim, Maps, shared, shared_wrong, shared_drawn, shared_drawn_wrong, settings, settings_by, half, All}

-- a strip that falls to the east, the last step twice as steep
abbrev strip : List ℤ
strip = pos 900 ∷ pos 800 ∷ pos 700 ∷ pos 500 ∷ []

-- its two halves are two farms'
abbrev halves : List ℕ
halves = 0 ∷ 0 ∷ 1 ∷ 1 ∷ []

-- cutoffs 0.5 with this channel rule
abbrev with_channel : Channel → Settings
with_channel channel = record { low = quotient 100 50; high = quotient 100 50; channel = channel; formula = Older }

-- the map of the strip with these lengths and LS
abbrev strip_with : List ℕ → List ℕ → Maps
strip_with lengths factors =
    record { valids = 4; longest = 3; filled = strip; direction = 1 ∷ 1 ∷ 1 ∷ 0 ∷ []; count = 1 ∷ 2 ∷ 3 ∷ 4 ∷ []; lengths = lengths; factors = factors }

unfoldable pub claims : List Claim
claims =
    -- the second cell is a channel by farm 0's rule: it hands its step on to farm 1, whose formula is the newer one and which cuts nothing
    shared 1 4 1000 (with_channel (Cells 1)) (settings_by Newer 100 100) halves strip
    (strip_with (5000 ∷ 0 ∷ 10000 ∷ 20000 ∷ []) (54379 ∷ 0 ∷ 187064 ∷ 3880 ∷ []))
    ∷
    -- and the other way round: farm 0 starts no channel, and farm 1's last cell is cut
    shared 1 4 1000 (settings_by Newer 100 100) half halves strip (strip_with (5000 ∷ 15000 ∷ 25000 ∷ 0 ∷ []) (54661 ∷ 95366 ∷ 367926 ∷ 0 ∷ []))
    ∷
    -- half of the largest count of the whole map, 4, is 2, so no cell of farm 0 is a channel; its own largest count is 2
    shared 1 4 1000 (with_channel (Percentage (quotient 10 500))) half halves strip (strip_with (5000 ∷ 15000 ∷ 25000 ∷ 0 ∷ []) (54379 ∷ 94874 ∷ 367926 ∷ 0 ∷ []))
    ∷
    -- a mark above 1 comes before a height out of range, and NoData's mark counts too
    shared_wrong 1 4 1000 half half (0 ∷ 1 ∷ 2 ∷ 3 ∷ []) (pos 100000000 ∷ pos 1 ∷ no_data_height ∷ pos 1 ∷ []) 19 2
    ∷
    -- farm 1's channel rule comes before the marks, and farm 0's settings before farm 1's, though no cell is farm 1's
    shared_wrong 1 4 1000 half (with_channel (Percentage (quotient 10 1001))) (0 ∷ 0 ∷ 0 ∷ 9 ∷ []) strip 4 6
    ∷
    shared_wrong 1 4 1000 (settings 50 101) (settings 101 50) (0 ∷ 0 ∷ 0 ∷ 0 ∷ []) strip 4 2
    ∷
    shared_wrong 1 4 1000 half (settings 101 50) (0 ∷ 0 ∷ 0 ∷ 0 ∷ []) strip 4 4
    ∷
    -- the marks are one for each cell; 2 comes before 3 and 4
    shared_wrong 1 4 0 (settings 50 101) half (0 ∷ 0 ∷ 0 ∷ []) strip 2 0
    ∷
    -- given directions, by which the water leaves the map at the third cell: a channel of farm 0 hands its step on to it
    shared_drawn 1 4 1000 (with_channel (Cells 1)) (settings_by Newer 100 100) halves strip (1 ∷ 1 ∷ 0 ∷ 0 ∷ [])
    (record {
      valids = 4;
      longest = 2;
      filled = strip;
      direction = 1 ∷ 1 ∷ 0 ∷ 0 ∷ [];
      count = 1 ∷ 2 ∷ 3 ∷ 1 ∷ [];
      lengths = 5000 ∷ 0 ∷ 10000 ∷ 5000 ∷ [];
      factors = 54379 ∷ 0 ∷ 3400 ∷ 2960 ∷ [];
    })
    ∷
    -- a code that points off the grid comes after a mark above 1, which touches nothing, and leaves zeros in the workspace
    shared_drawn_wrong 1 4 1000 half half (0 ∷ 0 ∷ 1 ∷ 2 ∷ []) strip (16 ∷ 1 ∷ 1 ∷ 0 ∷ []) 19 3 7
    ∷
    shared_drawn_wrong 1 4 1000 half half halves strip (16 ∷ 1 ∷ 1 ∷ 0 ∷ []) 17 0 0
    ∷ []

pub claims-hold : All claims
unfolding claims answer after size_test length_test side_test settings_test height_test mark_test code_test ring_test
claims-hold = (
  (refl, refl),
  (
    (refl, refl),
    (
      (refl, refl),
      (
        (refl, refl),
        ((refl, refl), ((refl, refl), ((refl, refl), ((refl, refl), ((refl, refl), ((refl, refl), ((refl, refl), tt))))))),
      ),
    ),
  ),
)
