-- RULES 3 and 7.2: what terrain's call answers, and what each lent grid holds afterwards. Assumes nothing.
use Rattle.std.specs.Prelude.{◌≡◌, ℕ, ◌*◌, Bool, true, false, cond, ◌||◌, List, [], ◌∷◌, ◌++◌, length, replicate, ℤ, ◌==◌, Result, Ok, Err}
use Rattle.std.specs.Borrow.{Bor}
use Rattle.laws.specs.Slices.{Slice}
use Rattle.laws.specs.Tests.{Test, passed, failed, verdict}
use Rattle.text.specs.Ranges.{size_test, length_test, height_test}
use Rattle.text.specs.Faults.{fault_of}
use Rattle.text.specs.declared.Refusal.{Refusal}
use Rattle.terrain.specs.Cells.{levels_of}
use Rattle.terrain.specs.Filled.{filled_levels, filled_of}
use Rattle.terrain.specs.Direction.{directions_of}
use Rattle.terrain.specs.Trail.{valids_of, counts_of, longest_of}
use Rattle.terrain.specs.Falls.{falls_of}
use Rattle.terrain.specs.Downhill.{Downhill}
use Rattle.terrain.specs.Given.{given_tests}
use Rattle.terrain.specs.declared.Source.{Source}
use Rattle.terrain.specs.declared.Source.TheVariants.{Own, Given}
use Rattle.terrain.specs.declared.Summary.{Summary}

-- the grids that a call is lent to write
pub record Grids : Type 0 where
  pub filled : List ℤ
  pub direction : List ℕ
  pub count : List ℕ
  pub falls : List ℕ
  pub workspace : List ℕ

-- the lent slices together
abbrev pub lent : List ℤ → List ℕ → List ℕ → List ℕ → List ℕ → Grids
lent filled direction count falls workspace = record { filled = filled; direction = direction; count = count; falls = falls; workspace = workspace }

-- as they stand, as they are at the call, and as they are at the return
abbrev pub lent_at : Bor (List ℤ) → Bor (List ℕ) → Bor (List ℕ) → Bor (List ℕ) → Bor (List ℕ) → Grids
lent_at filled direction count falls workspace = lent filled.now direction.now count.now falls.now workspace.now

abbrev pub lent_before : Slice ℤ → Slice ℕ → Slice ℕ → Slice ℕ → Slice ℕ → Grids
lent_before filled direction count falls workspace = lent filled.entry.now direction.entry.now count.entry.now falls.entry.now workspace.entry.now

abbrev pub lent_after : Slice ℤ → Slice ℕ → Slice ℕ → Slice ℕ → Slice ℕ → Grids
lent_after filled direction count falls workspace = lent filled.exit.now direction.exit.now count.exit.now falls.exit.now workspace.exit.now

-- how many places the ground and each lent grid have
abbrev pub places_of : List ℤ → Grids → List ℕ
places_of elevation g = length elevation ∷ length g.filled ∷ length g.direction ∷ length g.count ∷ length g.falls ∷ length g.workspace ∷ []

-- the tests of the ground, which are made before anything is written: 1, 2, 5
unfoldable pub ground_tests : ℕ → ℕ → List ℤ → Grids → List Test
ground_tests rows cols elevation g = size_test rows cols ∷ length_test (rows * cols) (places_of elevation g) ∷ height_test (rows * cols) elevation ∷ []

-- what they decide
unfoldable pub ground_judged : ℕ → ℕ → List ℤ → Grids → Test
unfolding ground_tests verdict
ground_judged rows cols elevation g = verdict (ground_tests rows cols elevation g)

-- the tests of directions that are given, over filled levels: 17, 18. Our own need none.
abbrev pub source_tests : Source → ℕ → ℕ → List ℕ → List ℕ → List Test
source_tests Own rows cols lv given = []
source_tests Given rows cols lv given = given_tests rows cols lv given

-- the tests of the call, in the order of docs/RULES.md: 1, 2, 5, 17, 18. Given directions stand in the lent grid at the call.
unfoldable pub tests : ℕ → ℕ → Source → List ℤ → Grids → List Test
unfolding ground_tests filled_levels
tests rows cols source elevation g = ground_tests rows cols elevation g ++ source_tests source rows cols (filled_levels rows cols elevation) g.direction

-- what they decide
unfoldable pub judged : ℕ → ℕ → Source → List ℤ → Grids → Test
unfolding tests verdict
judged rows cols source elevation g = verdict (tests rows cols source elevation g)

-- the number of valid cells
unfoldable pub ground_valids : ℕ → ℕ → List ℤ → ℕ
unfolding valids_of levels_of
ground_valids rows cols elevation = valids_of rows cols (levels_of elevation)

-- the directions of a ground
unfoldable pub ground_directions : ℕ → ℕ → List ℤ → List ℕ
unfolding filled_levels directions_of
ground_directions rows cols elevation = directions_of rows cols (filled_levels rows cols elevation)

-- the directions of a map: our own, or the given ones
abbrev pub directions_by : Source → ℕ → ℕ → List ℤ → List ℕ → List ℕ
directions_by Own rows cols elevation given = ground_directions rows cols elevation
directions_by Given rows cols elevation given = given

-- the grids of a ground for a list of directions. Which of the many orders from the ridges down the workspace holds is left open.
pub record Mapped (rows cols : ℕ) (elevation : List ℤ) (dir : List ℕ) (g : Grids) : Type 0 where
  pub filled_is : g.filled ≡ filled_of rows cols elevation
  pub direction-is : g.direction ≡ dir
  pub count-is : g.count ≡ counts_of rows cols dir
  pub falls-are : g.falls ≡ falls_of rows cols (filled_levels rows cols elevation) dir
  pub order : Downhill rows cols dir g.workspace (ground_valids rows cols elevation)

-- the numbers of an accepted call, or the fault and the place of a refusal
unfoldable pub answer_of : ℕ → ℕ → List ℤ → List ℕ → Test → Result Summary Refusal
unfolding ground_valids longest_of fault_of
answer_of rows cols elevation dir passed = Ok (record { valid = ground_valids rows cols elevation; longest = longest_of rows cols dir })
answer_of rows cols elevation dir (failed number place) = Err (record { fault = fault_of number; place = place })

-- 17 and 18 leave zeros in the workspace
abbrev pub leaves_zeros : ℕ → Bool
leaves_zeros number = number == 17 || number == 18

-- A refusal changes no lent grid but, with these numbers, the workspace
abbrev pub refused_grids : ℕ → Grids → Grids
refused_grids number g = cond (leaves_zeros number) (lent g.filled g.direction g.count g.falls (replicate (length g.workspace) 0)) g

-- what the lent grids g are afterwards, for a ground, its directions and what the tests decide
abbrev pub After : ℕ → ℕ → List ℤ → List ℕ → Grids → Grids → Test → Type 0
After rows cols elevation dir g h passed = Mapped rows cols elevation dir h
After rows cols elevation dir g h (failed number place) = h ≡ refused_grids number g

-- the whole of the call
unfoldable pub answer : ℕ → ℕ → Source → List ℤ → Grids → Result Summary Refusal
unfolding judged answer_of ground_directions
answer rows cols source elevation g = answer_of rows cols elevation (directions_by source rows cols elevation g.direction) (judged rows cols source elevation g)

-- the call was accepted
abbrev pub accepts : Result Summary Refusal → Bool
accepts (Ok s) = true
accepts (Err f) = false

-- the number of valid cells that an answer gives
abbrev pub valid_in : Result Summary Refusal → ℕ
valid_in (Ok s) = s.valid
valid_in (Err f) = 0
