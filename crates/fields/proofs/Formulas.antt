-- Both steepness formulas of RULES 6.3 at the slopes where they turn, and a field under the newer one. antt computes each side. Assumes nothing.
use mathlib.Core.Path.{refl}
use mathlib.Core.List.{List, [], ◌∷◌}
use lib.IntN.{pos}
use Rattle.text.specs.Ranges.{size_test, length_test, side_test, height_test}
use Rattle.settings.specs.declared.Formula.TheVariants.{Newer}
use Rattle.settings.specs.Settings.{settings_test}
use Rattle.factor.specs.Steepness.{sine_of, steepness_factor}
use Rattle.factor.specs.Answers.{answer, after}
use Rattle.fields.specs.Claims.{Claim, mapped, steep, settings_by, All}

unfoldable pub formulas : List Claim
formulas =
    -- flat ground, and the first slopes: a sine of 0 counts as 1 in the newer formula alone
    steep 1000 0 0 65 40 ∷
    steep 1000 2 0 65 40 ∷
    steep 1000 8 1 69 40 ∷
    steep 100000 2 0 65 40 ∷
    -- around nine percent, of a side of 10 m and of 1 m: the sine is 89 on both sides
    steep 1000 15842 88 972 980 ∷
    steep 1000 16129 89 988 991 ∷
    steep 1000 16199 89 988 991 ∷
    steep 1000 16200 89 988 995 ∷
    steep 1000 16384 90 1005 1012 ∷
    steep 100 161 89 988 991 ∷
    steep 100 162 89 988 995 ∷
    -- the slopes of the pit
    steep 1000 10000 70 704 786 ∷
    steep 1000 20000 99 1157 1163 ∷
    -- the steepest that a map can have, with the least side and with the greatest
    steep 1 1805000000000 999 69899 16283 ∷
    steep 100000 1805000000000 994 69225 16199 ∷
    -- the pit under the newer formula: only LS differs
    mapped 3 3 1000 (settings_by Newer 50 50) (pos 500 ∷ pos 500 ∷ pos 500 ∷ pos 500 ∷ pos 200 ∷ pos 400 ∷ pos 500 ∷ pos 500 ∷ pos 500 ∷ [])
    (record {
      valids = 9;
      longest = 2;
      filled = pos 500 ∷ pos 500 ∷ pos 500 ∷ pos 500 ∷ pos 400 ∷ pos 400 ∷ pos 500 ∷ pos 500 ∷ pos 500 ∷ [];
      direction = 2 ∷ 4 ∷ 4 ∷ 1 ∷ 1 ∷ 0 ∷ 128 ∷ 64 ∷ 64 ∷ [];
      count = 1 ∷ 1 ∷ 1 ∷ 1 ∷ 6 ∷ 9 ∷ 1 ∷ 1 ∷ 1 ∷ [];
      lengths = 7071 ∷ 5000 ∷ 5000 ∷ 5000 ∷ 0 ∷ 5000 ∷ 7071 ∷ 5000 ∷ 5000 ∷ [];
      factors = 44016 ∷ 54661 ∷ 54661 ∷ 54661 ∷ 0 ∷ 2960 ∷ 44016 ∷ 54661 ∷ 54661 ∷ [];
    })
    ∷
    []

pub formulas-hold : All formulas
unfolding formulas answer after size_test length_test side_test settings_test height_test sine_of steepness_factor
formulas-hold = (
  (refl, refl, refl),
  (
    (refl, refl, refl),
    (
      (refl, refl, refl),
      (
        (refl, refl, refl),
        (
          (refl, refl, refl),
          (
            (refl, refl, refl),
            (
              (refl, refl, refl),
              (
                (refl, refl, refl),
                (
                  (refl, refl, refl),
                  (
                    (refl, refl, refl),
                    (
                      (refl, refl, refl),
                      (
                        (refl, refl, refl),
                        (
                          (refl, refl, refl),
                          (
                            (refl, refl, refl),
                            ((refl, refl, refl), ((refl, refl), tt)),
                          ),
                        ),
                      ),
                    ),
                  ),
                ),
              ),
            ),
          ),
        ),
      ),
    ),
  ),
)
