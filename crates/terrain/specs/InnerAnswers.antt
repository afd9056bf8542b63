-- What the function that makes the tests of terrain's call answers: only inner functions cite this file. Assumes nothing.
use Rattle.std.specs.Prelude.{ℕ, List, Result, Ok, Err}
use Rattle.laws.specs.Tests.{Test, passed, failed}
use Rattle.text.specs.Faults.{number_of}
use Rattle.text.specs.declared.Refusal.{Refusal}
use Rattle.terrain.specs.Direction.{directions_of}
use Rattle.terrain.specs.declared.Source.{Source}
use Rattle.terrain.specs.declared.Source.TheVariants.{Own, Given}

-- the verdict that a function of the tests comes to
abbrev pub found : Result (Unit {0}) Refusal → Test
found (Ok u) = passed
found (Err f) = failed (number_of f.fault) f.place

-- the directions that are made of levels, or were given
abbrev pub directions_for : Source → ℕ → ℕ → List ℕ → List ℕ → List ℕ
directions_for Own rows cols lv given = directions_of rows cols lv
directions_for Given rows cols lv given = given
