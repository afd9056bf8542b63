-- Small given grids on 3 by 3 levels, computed from the definitions. Assumes nothing.
use Rattle.std.proofs.Common.{◌≡◌, ℕ, List, [], ◌∷◌, refl}
use Rattle.laws.specs.First.{first_of, some_of}
use Rattle.laws.specs.Tests.{Test, passed, failed, verdict}
use Rattle.terrain.specs.Cells.{cell_at, neighbour, bearing_of, rim_at}
use Rattle.terrain.specs.Trail.{flows_at, next_at, passes_in}
use Rattle.terrain.specs.Given.{kept_at, first_broken, ring_at, first_ring, code_test, ring_test, given_tests}

-- what the tests say of a grid of codes
judge : List ℕ → List ℕ → Test
unfolding verdict code_test ring_test
judge lv dir = verdict (given_tests 3 3 lv dir)

flat : List ℕ
flat = 5 ∷ 5 ∷ 5 ∷ 5 ∷ 5 ∷ 5 ∷ 5 ∷ 5 ∷ 5 ∷ []

-- NoData in the middle, and a hill there
hole : List ℕ
hole = 5 ∷ 5 ∷ 5 ∷ 5 ∷ 0 ∷ 5 ∷ 5 ∷ 5 ∷ 5 ∷ []

hill : List ℕ
hill = 5 ∷ 5 ∷ 5 ∷ 5 ∷ 6 ∷ 5 ∷ 5 ∷ 5 ∷ 5 ∷ []

computed :
    -- all cells leave but the one inside, which points east; a hill may point anywhere
    judge flat (0 ∷ 0 ∷ 0 ∷ 0 ∷ 1 ∷ 0 ∷ 0 ∷ 0 ∷ 0 ∷ [])
    ∷ judge hill (0 ∷ 0 ∷ 0 ∷ 0 ∷ 32 ∷ 0 ∷ 0 ∷ 0 ∷ 0 ∷ [])
    -- a NoData cell has 255, and no other code
    ∷ judge hole (0 ∷ 0 ∷ 0 ∷ 0 ∷ 255 ∷ 0 ∷ 0 ∷ 0 ∷ 0 ∷ [])
    ∷ judge hole (0 ∷ 0 ∷ 0 ∷ 0 ∷ 0 ∷ 0 ∷ 0 ∷ 0 ∷ 0 ∷ [])
    -- a code that is none of the nine; 255 on a valid cell
    ∷ judge flat (0 ∷ 0 ∷ 0 ∷ 0 ∷ 1 ∷ 3 ∷ 0 ∷ 0 ∷ 0 ∷ [])
    ∷ judge flat (0 ∷ 0 ∷ 0 ∷ 0 ∷ 1 ∷ 0 ∷ 255 ∷ 0 ∷ 0 ∷ [])
    -- off the grid, and at NoData
    ∷ judge flat (0 ∷ 64 ∷ 0 ∷ 0 ∷ 1 ∷ 0 ∷ 0 ∷ 0 ∷ 0 ∷ [])
    ∷ judge hole (0 ∷ 0 ∷ 0 ∷ 1 ∷ 255 ∷ 0 ∷ 0 ∷ 0 ∷ 0 ∷ [])
    -- to a higher cell
    ∷ judge hill (2 ∷ 0 ∷ 0 ∷ 0 ∷ 1 ∷ 0 ∷ 0 ∷ 0 ∷ 0 ∷ [])
    -- 0 on the cell inside
    ∷ judge flat (0 ∷ 0 ∷ 0 ∷ 0 ∷ 0 ∷ 0 ∷ 0 ∷ 0 ∷ 0 ∷ [])
    -- two cells that point at each other; the first of two such pairs; a ring of four, with a way in from the north-west; a ring of eight
    ∷ judge flat (0 ∷ 0 ∷ 0 ∷ 0 ∷ 1 ∷ 0 ∷ 0 ∷ 1 ∷ 16 ∷ [])
    ∷ judge flat (0 ∷ 1 ∷ 16 ∷ 0 ∷ 1 ∷ 0 ∷ 0 ∷ 1 ∷ 16 ∷ [])
    ∷ judge flat (2 ∷ 0 ∷ 0 ∷ 0 ∷ 1 ∷ 4 ∷ 0 ∷ 64 ∷ 16 ∷ [])
    ∷ judge flat (1 ∷ 1 ∷ 4 ∷ 64 ∷ 1 ∷ 4 ∷ 64 ∷ 16 ∷ 16 ∷ [])
    -- several faults at once, after a ring: 17 comes first, at the first of them
    ∷ judge flat (1 ∷ 16 ∷ 0 ∷ 0 ∷ 0 ∷ 3 ∷ 255 ∷ 4 ∷ 0 ∷ [])
    ∷ []
    ≡ passed ∷ passed
    ∷ passed ∷ failed 17 4
    ∷ failed 17 5 ∷ failed 17 6
    ∷ failed 17 1 ∷ failed 17 3
    ∷ failed 17 0
    ∷ failed 17 4
    ∷ failed 18 7 ∷ failed 18 1 ∷ failed 18 4 ∷ failed 18 0
    ∷ failed 17 4
    ∷ []
unfolding judge flat hole hill verdict code_test ring_test first_broken first_ring kept_at ring_at first_of some_of flows_at next_at passes_in bearing_of neighbour cell_at rim_at
computed = refl
