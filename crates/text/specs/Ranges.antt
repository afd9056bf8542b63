-- RULES 1 and 3: what sizes, sides and heights are accepted, and the tests of a call that takes them. Assumes nothing.
use Rattle.std.specs.Prelude.{List, [], ◌∷◌, Option, Some, None, Bool, true, cond, not, ◌&&◌, ◌||◌, ℕ, get_or, ℤ, pos, ltb, eqb}
use Rattle.laws.specs.First.{first_of}
use Rattle.laws.specs.Tests.{Test, test}
use Rattle.text.specs.Quantities.{extent_in, side_in, height_in, no_data_height}
use Rattle.text.specs.Heights.{same}

-- rows, columns: each 1 to 1,024
unfoldable pub size_accepted : ℕ → Bool
size_accepted n = extent_in n

-- cell side c: whole cm, 1 to 100,000
unfoldable pub side_accepted : ℕ → Bool
side_accepted c = side_in (pos c)

-- what is no cause of refusal 5, height out of range and not NoData
unfoldable pub height_accepted : ℤ → Bool
height_accepted z = same z no_data_height || height_in z

-- the first cell whose height is out of range and not NoData; n where there is none
unfoldable pub first_bad : ℕ → List ℤ → ℕ
unfolding first_of height_accepted
first_bad n elevation = first_of (λ x. not (height_accepted (get_or elevation x no_data_height))) n

-- that cell, if there is one
abbrev pub bad_cell : ℕ → List ℤ → Option ℕ
bad_cell n elevation = cond (ltb (first_bad n elevation) n) (Some (first_bad n elevation)) None

-- each length is n
unfoldable pub all_long : ℕ → List ℕ → Bool
all_long n [] = true
all_long n (length ∷ lengths) = eqb length n && all_long n lengths

-- ---- the tests of a call, but for its settings: the promises of the layers above cite them

-- 1: rows or columns 0 or above 1,024
unfoldable pub size_test : ℕ → ℕ → Test
unfolding size_accepted
size_test rows cols = test (size_accepted rows && size_accepted cols) 1 0

-- 2: a lent grid or the workspace is not exactly rows times columns long
unfoldable pub length_test : ℕ → List ℕ → Test
unfolding all_long
length_test n lengths = test (all_long n lengths) 2 0

-- 3: cell side out of range
unfoldable pub side_test : ℕ → Test
unfolding side_accepted
side_test side = test (side_accepted side) 3 0

-- 5: height out of range and not NoData; place: cell index, at the first bad cell in row order
unfoldable pub height_test : ℕ → List ℤ → Test
unfolding first_bad
height_test n elevation = test (not (ltb (first_bad n elevation) n)) 5 (first_bad n elevation)
