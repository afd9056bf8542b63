-- RULES 5.3: whose settings a cell has: those of the one farm, or those of the farm that it names; and the tests that come with them. Assumes nothing.
use Rattle.std.specs.Prelude.{cond, not, List, [], ◌∷◌, ◌++◌, ◌≡◌, ℕ, ◌+◌, ◌<◌, length, get_or, ltb, eqb}
use Rattle.laws.specs.First.{first_of}
use Rattle.laws.specs.Tests.{Test, passed, failed, test}
use Rattle.settings.specs.declared.Settings.{Settings}
use Rattle.settings.specs.declared.Rules.{Rules}
use Rattle.settings.specs.Settings.{rules_of, settings_test}

-- one farm's settings; or those of farm 0 and of farm 1, with the farm that each cell names
pub data Farms : Type 0 where
  one : Settings → Farms
  two : Settings → Settings → List ℕ → Farms

-- the farm that the cell x names
abbrev pub farm_at : List ℕ → ℕ → ℕ
farm_at marks x = get_or marks x 0

-- each of the n cells names farm 0 or 1
pub record Marked (n : ℕ) (marks : List ℕ) : Type 0 where
  pub long : length marks ≡ n
  pub few : (x : ℕ) → farm_at marks x < 2

-- what farm 0 has, and what farm 1 has
abbrev pub of_farm : Rules → Rules → ℕ → Rules
of_farm first second farm = cond (eqb farm 0) first second

-- the rules of the cell x: those of its own farm
unfoldable pub rules_in : Farms → ℕ → Rules
unfolding rules_of
rules_in (one s) x = rules_of s
rules_in (two s t marks) x = of_farm (rules_of s) (rules_of t) (farm_at marks x)

-- how many places the marks have: refusal 2 tests them with the lent grids
abbrev pub mark_places : Farms → List ℕ
mark_places (one s) = []
mark_places (two s t marks) = length marks ∷ []

-- place 4, 5 and 6 in refusal 4 for farm 1's settings
abbrev pub second_places : Test → Test
second_places passed = passed
second_places (failed number place) = failed number (3 + place)

-- the first cell with a farm mark above 1; n where there is none
unfoldable pub first_mark : ℕ → List ℕ → ℕ
unfolding first_of
first_mark n marks = first_of (λ x. ltb 1 (farm_at marks x)) n

-- 19: a farm mark above 1; place: the first such cell
unfoldable pub mark_test : ℕ → List ℕ → Test
unfolding first_mark
mark_test n marks = test (not (ltb (first_mark n marks) n)) 19 (first_mark n marks)

-- 4: a setting of either farm not accepted
abbrev pub settings_tests : Farms → List Test
settings_tests (one s) = settings_test s ∷ []
settings_tests (two s t marks) = settings_test s ∷ second_places (settings_test t) ∷ []

-- 19, of two farms alone
abbrev pub mark_tests : ℕ → Farms → List Test
mark_tests n (one s) = []
mark_tests n (two s t marks) = mark_test n marks ∷ []

-- both
abbrev pub farm_tests : ℕ → Farms → List Test
farm_tests n farms = settings_tests farms ++ mark_tests n farms
