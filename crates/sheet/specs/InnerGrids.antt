-- The grids that a function is lent, and how long they have to be: only inner functions cite this file. Assumes nothing.
use Rattle.std.specs.Prelude.{◌≡◌, List, ℕ, ◌≤◌, ℤ, length}
use Rattle.factor.specs.Answers as factor
use Rattle.sheet.specs.Lines.{Grids, grids_of}
use Rattle.sheet.specs.declared.lines.Grids as declared

-- the grids that are shown
abbrev pub shown : declared.Grids → Grids
shown g = grids_of g.elevation.now g.filled.now g.direction.now g.count.now g.lengths.now g.factors.now

-- every grid that is lent to the map call has n cells, and there are not too many of them
pub record LentLong (n : ℕ) (elevation : List ℤ) (g : factor.Grids) : Type 0 where
  pub few : n ≤ 2048
  pub ground-long : length elevation ≡ n
  pub filled-long : length g.filled ≡ n
  pub direction-long : length g.direction ≡ n
  pub count_long : length g.count ≡ n
  pub lengths-long : length g.lengths ≡ n
  pub factors-long : length g.factors ≡ n
  pub workspace-long : length g.workspace ≡ n

-- every grid that is shown has n cells, and they are not too many to count their bytes
pub record Long (n : ℕ) (g : Grids) : Type 0 where
  pub few : n ≤ 1048576
  pub ground-long : length g.elevation ≡ n
  pub filled-long : length g.filled ≡ n
  pub direction-long : length g.direction ≡ n
  pub count_long : length g.count ≡ n
  pub lengths-long : length g.lengths ≡ n
  pub factors-long : length g.factors ≡ n
