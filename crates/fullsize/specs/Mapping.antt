-- RULES 7.3: the map calls with their settings as numbers. One test more for each farm than the map call's own: the number of its
-- formula, after the other settings of both farms and before the marks. Assumes nothing.
use Rattle.std.specs.Prelude.{List, ◌∷◌, ◌++◌, ℕ, ◌*◌, ℤ, Result}
use Rattle.laws.specs.Tests.{Test, verdict}
use Rattle.text.specs.Ranges.{height_test}
use Rattle.terrain.specs.Filled.{filled_levels}
use Rattle.terrain.specs.Answers.{ground_directions, source_tests, directions_by}
use Rattle.terrain.specs.declared.Source.{Source}
use Rattle.terrain.specs.declared.Summary.{Summary}
use Rattle.text.specs.declared.Refusal.{Refusal}
use Rattle.factor.specs.Farms.{Farms, mark_tests}
use Rattle.factor.specs.Answers.{Grids, early_tests, answer_of, grids_of}

-- the tests of the map call, in order, with those of the formulas' numbers between 4 and 19
unfoldable pub judged_by : ℕ → ℕ → ℕ → Farms → List Test → Source → List ℤ → Grids → Test
unfolding early_tests filled_levels verdict
judged_by rows cols side farms formulas source elevation g =
    verdict (early_tests rows cols side farms elevation g
    ++ (formulas
    ++ (mark_tests (rows * cols) farms
    ++ (height_test (rows * cols) elevation ∷ source_tests source rows cols (filled_levels rows cols elevation) g.direction))))

-- the answer, and the lent grids afterwards, by what they decide
unfoldable pub answer_by : ℕ → ℕ → ℕ → Farms → List Test → Source → List ℤ → Grids → Result Summary Refusal
unfolding judged_by answer_of ground_directions
answer_by rows cols side farms formulas source elevation g =
    answer_of rows cols elevation (directions_by source rows cols elevation g.direction) (judged_by rows cols side farms formulas source elevation g)

unfoldable pub after_by : ℕ → ℕ → ℕ → Farms → List Test → Source → List ℤ → Grids → Grids
unfolding judged_by grids_of ground_directions
after_by rows cols side farms formulas source elevation g =
    grids_of rows cols side farms elevation (directions_by source rows cols elevation g.direction) g (judged_by rows cols side farms formulas source elevation g)
