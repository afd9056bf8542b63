-- RULES 3 and 7.2 to 7.4: what the map call answers, and what each lent grid holds afterwards; and the tests 1 to 4 by themselves. Assumes nothing.
use Rattle.std.specs.Prelude.{List, [], ◌∷◌, ◌++◌, ◌≡◌, Bool, true, false, cond, ℕ, ◌*◌, length, replicate, ℤ, Result, Ok, Err}
use Rattle.std.specs.Borrow.{Bor}
use Rattle.laws.specs.Slices.{Slice}
use Rattle.laws.specs.Tests.{Test, passed, failed, verdict}
use Rattle.text.specs.Ranges.{size_test, length_test, side_test, height_test}
use Rattle.text.specs.Faults.{number_of, fault_of}
use Rattle.text.specs.declared.Refusal.{Refusal}
use Rattle.settings.specs.declared.Settings.{Settings}
use Rattle.settings.specs.declared.Rules.{Rules}
use Rattle.settings.specs.Settings.{rules_of, settings_test}
use Rattle.terrain.specs.Filled.{filled_levels, filled_of}
use Rattle.terrain.specs.Trail.{counts_of, longest_of}
use Rattle.terrain.specs.Answers.{ground_valids, ground_directions, source_tests, directions_by, leaves_zeros}
use Rattle.terrain.specs.declared.Source.{Source}
use Rattle.factor.specs.Farms.{Farms, one, two, rules_in, mark_places, second_places, settings_tests, mark_test, mark_tests}
use Rattle.factor.specs.Length.{lengths_of}
use Rattle.factor.specs.Grid.{factors_of}
use Rattle.terrain.specs.declared.Summary.{Summary}
use Rattle.factor.specs.declared.tests.FarmRules.{FarmRules}

-- the grids that a call is lent to write
pub record Grids : Type 0 where
  pub filled : List ℤ
  pub direction : List ℕ
  pub count : List ℕ
  pub lengths : List ℕ
  pub factors : List ℕ
  pub workspace : List ℕ

-- the grids that these lists are
abbrev pub lent : List ℤ → List ℕ → List ℕ → List ℕ → List ℕ → List ℕ → Grids
lent filled direction count lengths factors workspace =
    record { filled = filled; direction = direction; count = count; lengths = lengths; factors = factors; workspace = workspace }

-- the lent slices together: as they stand, as they are at the call, and as they are at the return
abbrev pub lent_at : Bor (List ℤ) → Bor (List ℕ) → Bor (List ℕ) → Bor (List ℕ) → Bor (List ℕ) → Bor (List ℕ) → Grids
lent_at filled direction count lengths factors workspace =
    lent filled.now direction.now count.now lengths.now factors.now workspace.now

abbrev pub lent_before : Slice ℤ → Slice ℕ → Slice ℕ → Slice ℕ → Slice ℕ → Slice ℕ → Grids
lent_before filled direction count lengths factors workspace =
    lent filled.entry.now direction.entry.now count.entry.now lengths.entry.now factors.entry.now workspace.entry.now

abbrev pub lent_after : Slice ℤ → Slice ℕ → Slice ℕ → Slice ℕ → Slice ℕ → Slice ℕ → Grids
lent_after filled direction count lengths factors workspace =
    lent filled.exit.now direction.exit.now count.exit.now lengths.exit.now factors.exit.now workspace.exit.now

-- how many places the ground and each lent grid have
abbrev pub places_of : List ℤ → Grids → List ℕ
places_of elevation g =
    length elevation ∷ length g.filled ∷ length g.direction ∷ length g.count ∷ length g.lengths ∷ length g.factors ∷ length g.workspace ∷ []

-- the tests 1, 2, 3, 4 in that order
unfoldable pub early_tests : ℕ → ℕ → ℕ → Farms → List ℤ → Grids → List Test
early_tests rows cols side farms elevation g =
    size_test rows cols ∷ length_test (rows * cols) (mark_places farms ++ places_of elevation g) ∷ side_test side ∷ settings_tests farms

-- the tests that are made before the heights are looked at: 19 after 4
unfoldable pub first_tests : ℕ → ℕ → ℕ → Farms → List ℤ → Grids → List Test
unfolding early_tests mark_test
first_tests rows cols side farms elevation g = early_tests rows cols side farms elevation g ++ mark_tests (rows * cols) farms

-- The map call tests 1, 2, 3, 4, 19, 5 in that order, 5 at the first bad cell in row order; then, if the lent directions are given ones, 17 and 18.
unfoldable pub tests : ℕ → ℕ → ℕ → Farms → Source → List ℤ → Grids → List Test
unfolding first_tests filled_levels
tests rows cols side farms source elevation g =
    first_tests rows cols side farms elevation g
    ++ (height_test (rows * cols) elevation ∷ source_tests source rows cols (filled_levels rows cols elevation) g.direction)

-- what they decide
unfoldable pub judged : ℕ → ℕ → ℕ → Farms → Source → List ℤ → Grids → Test
unfolding tests verdict
judged rows cols side farms source elevation g = verdict (tests rows cols side farms source elevation g)

-- the grids of a ground for a list of directions, by the rules of each cell. The workspace holds zeros after success.
unfoldable pub map_of : ℕ → ℕ → ℕ → (ℕ → Rules) → List ℤ → List ℕ → Grids
unfolding filled_levels filled_of counts_of lengths_of factors_of
map_of rows cols side rules elevation dir =
    let lv = filled_levels rows cols elevation in
    let count = counts_of rows cols dir in
    let lengths = lengths_of rows cols side rules lv dir count in
    lent (filled_of rows cols elevation) dir count lengths (factors_of rows cols side rules lv dir lengths) (replicate (rows * cols) 0)

-- The answer gives the number of valid cells and the longest trail; a refusal has fault and place
unfoldable pub answer_of : ℕ → ℕ → List ℤ → List ℕ → Test → Result Summary Refusal
unfolding ground_valids longest_of fault_of
answer_of rows cols elevation dir passed = Ok (record { valid = ground_valids rows cols elevation; longest = longest_of rows cols dir })
answer_of rows cols elevation dir (failed number place) = Err (record { fault = fault_of number; place = place })

-- A refusal changes no lent grid; 17 and 18 leave zeros in the workspace.
abbrev pub refused_grids : ℕ → Grids → Grids
refused_grids number g =
    cond (leaves_zeros number) (lent g.filled g.direction g.count g.lengths g.factors (replicate (length g.workspace) 0)) g

unfoldable pub grids_of : ℕ → ℕ → ℕ → Farms → List ℤ → List ℕ → Grids → Test → Grids
unfolding rules_in map_of
grids_of rows cols side farms elevation dir g passed = map_of rows cols side (rules_in farms) elevation dir
grids_of rows cols side farms elevation dir g (failed number place) = refused_grids number g

-- the whole of the map call, for one farm or two, and for directions of our own or given ones
unfoldable pub answer : ℕ → ℕ → ℕ → Farms → Source → List ℤ → Grids → Result Summary Refusal
unfolding judged answer_of ground_directions
answer rows cols side farms source elevation g =
    answer_of rows cols elevation (directions_by source rows cols elevation g.direction) (judged rows cols side farms source elevation g)

unfoldable pub after : ℕ → ℕ → ℕ → Farms → Source → List ℤ → Grids → Grids
unfolding judged grids_of ground_directions
after rows cols side farms source elevation g =
    grids_of rows cols side farms elevation (directions_by source rows cols elevation g.direction) g (judged rows cols side farms source elevation g)

-- ---- the first tests by themselves

-- the verdict that a result stands for
abbrev pub found : {A : Type 0} → Result A Refusal → Test
found (Ok a) = passed
found (Err f) = failed (number_of f.fault) f.place

-- what is found by them; the rules are those of the settings
pub record Judges (rows cols side : ℕ) (settings : Settings) (elevation : List ℤ) (g : Grids) (r : Result Rules Refusal) : Type 0 where
  pub verdict-is : found r ≡ verdict (first_tests rows cols side (one settings) elevation g)
  pub rules-are : (rules : Rules) → r ≡ Ok rules → rules ≡ rules_of settings

-- likewise for two farms
pub record JudgesFarms (rows cols side : ℕ) (first second : Settings) (marks : List ℕ) (elevation : List ℤ) (g : Grids) (r : Result FarmRules Refusal) : Type 0 where
  pub verdict-is : found r ≡ verdict (first_tests rows cols side (two first second marks) elevation g)
  pub rules-are : (rules : FarmRules) → r ≡ Ok rules → (rules.first ≡ rules_of first) × (rules.second ≡ rules_of second)

-- what is found by the last of them, 4 for farm 1 and 19; farm 0's rules are those given
pub record JudgesRest (first : Rules) (second : Settings) (marks : List ℕ) (r : Result FarmRules Refusal) : Type 0 where
  pub verdict-is : found r ≡ verdict (second_places (settings_test second) ∷ mark_test (length marks) marks ∷ [])
  pub rules-are : (rules : FarmRules) → r ≡ Ok rules → (rules.first ≡ first) × (rules.second ≡ rules_of second)

-- ---- an answer as the paper's numbers, for the promises of the crates above

-- number and place, the number of valid cells and the steps of the longest trail
pub record Numbers : Type 0 where
  pub number : ℕ
  pub place : ℕ
  pub valids : ℕ
  pub longest : ℕ

-- An accepted call has number and place 0; a refusal returns number and place with every other number 0
abbrev pub told : Result Summary Refusal → Numbers
told (Ok s) = record { number = 0; place = 0; valids = s.valid; longest = s.longest }
told (Err f) = record { number = number_of f.fault; place = f.place; valids = 0; longest = 0 }

-- the call was accepted
abbrev pub accepts : Result Summary Refusal → Bool
accepts (Ok s) = true
accepts (Err f) = false
