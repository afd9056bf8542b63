-- The tests of a call, in order: the first that fails decides (RULES 3, Numbers of refusal). Assumes nothing.
use Rattle.std.specs.Prelude.{List, [], ◌∷◌, Bool, cond, ℕ}

-- what a test gives: a refusal has a number and a place
pub data Test : Type 0 where
  passed : Test
  failed : (number place : ℕ) → Test

-- passed if the fact holds, else refused with number and place
abbrev pub test : Bool → ℕ → ℕ → Test
test ok number place = cond ok passed (failed number place)

-- the first test of a list that fails decides
unfoldable pub verdict : List Test → Test
verdict [] = passed
verdict (passed ∷ l) = verdict l
verdict (failed number place ∷ l) = failed number place
