-- What the tests of a frame find: only inner functions cite this file. Assumes nothing.
use Rattle.std.specs.Prelude.{Result, Ok, Err}
use Rattle.laws.specs.Tests.{Test, passed, failed}
use Rattle.text.specs.Faults.{number_of}
use Rattle.text.specs.declared.Refusal.{Refusal}

-- as a test
abbrev pub found : Result Unit Refusal → Test
found (Ok x) = passed
found (Err f) = failed (number_of f.fault) f.place
