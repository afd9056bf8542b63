-- RULES 5.3: the words of the promise that a farm's settings stay its own matter: proofs/Apart.antt has it. Assumes nothing.
use Rattle.std.specs.Prelude.{◌≡◌, List, ℕ, get_or}
use Rattle.terrain.specs.Trail.{Trail, Meets}
use Rattle.factor.specs.Answers.{Grids}

-- the cell y lies on a trail into the cell z: its own trail, which every trail through y goes on as, meets z
abbrev pub OnTrailInto : ℕ → ℕ → List ℕ → ℕ → ℕ → Type 0
OnTrailInto rows cols dir y z = (t : Trail rows cols dir y) × Meets rows cols dir z t

-- the length and the LS of the cell z are the same in two maps
pub record Same (a b : Grids) (z : ℕ) : Type 0 where
  pub length-same : get_or a.lengths z 0 ≡ get_or b.lengths z 0
  pub factor-same : get_or a.factors z 0 ≡ get_or b.factors z 0
