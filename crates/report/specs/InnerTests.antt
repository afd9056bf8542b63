-- What the tests of a map by themselves find: only inner functions cite this file. Assumes nothing.
use Rattle.std.specs.Prelude.{List, [], ◌∷◌, ℕ, ◌*◌, Result, Ok, Err}
use Rattle.laws.specs.Tests.{Test}
use Rattle.text.specs.Ranges.{size_test, length_test}
use Rattle.text.specs.declared.Refusal.{Refusal}
use Rattle.text.specs.declared.faults.Fault.TheVariants as fault
use Rattle.settings.specs.declared.Rules.{Rules}
use Rattle.settings.specs.declared.Setting.{Setting}
use Rattle.settings.specs.Settings.{place_of}

-- 1 and 2
abbrev pub shape_tests : ℕ → ℕ → List ℕ → List Test
shape_tests rows columns lengths = size_test rows columns ∷ length_test (rows * columns) lengths ∷ []

-- 4, of one farm
abbrev pub settings_found : Result Rules Setting → Result Rules Refusal
settings_found (Ok rules) = Ok rules
settings_found (Err bad) = Err (record { fault = fault.Setting; place = place_of bad })
