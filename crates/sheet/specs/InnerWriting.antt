-- What a function that writes into a room promises: the place that it answers counts all that there was to write. Only inner functions cite this file. Assumes nothing.
use Rattle.std.specs.Prelude.{List, ℕ, ◌≡◌, ◌≤◌, Result, Ok, Err}
use Rattle.laws.specs.Slices.{Slice}
use Rattle.text.specs.Faults.{number_of}
use Rattle.text.specs.declared.Refusal.{Refusal}
use Rattle.numerals.specs.Writing.{Wrote}
use Rattle.sheet.specs.Lines.{refusal_line}

-- the bytes are put into the lent room from the place `at` on, and `next`, the place after them, is not past `most`
abbrev pub Puts : Slice ℕ → ℕ → List ℕ → ℕ → ℕ → Type 0
Puts room at bytes next most = Wrote room.entry.now at bytes next room.exit.now × (next ≤ most)

-- the lines are put into the room from its start on; or they are the line of the refusal, and the room is as it was
abbrev pub PutsOr : List ℕ → List ℕ → Result ℕ Refusal → List ℕ → Type 0
PutsOr room lines (Ok next) then = Wrote room 0 lines next then × (next ≤ 307305)
PutsOr room lines (Err f) then = (refusal_line (number_of f.fault) f.place ≡ lines) × (then ≡ room)
