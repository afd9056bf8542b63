-- RULES 9.2 and 10.3: what lies in a lent room after bytes were written into it: the room is never overrun. Assumes nothing.
use Rattle.std.specs.Prelude.{◌≡◌, List, ℕ, ◌+◌, length}
use Rattle.std.proofs.lemmas.List.Edits.{sets}
use Rattle.laws.specs.Slices.{Slice}

-- the bytes laid over the room from a place on, as far as the room goes
abbrev pub overlay : List ℕ → ℕ → List ℕ → List ℕ
overlay room at bytes = sets room at bytes

-- the bytes are laid over the lent room from the place `at` on, and they are `count` bytes
abbrev pub Lays : Slice ℕ → ℕ → List ℕ → ℕ → Type 0
Lays room at bytes count = (room.exit.now ≡ overlay room.entry.now at bytes) × (count ≡ length bytes)

-- the bytes were written from a place on; `next` is the place after them
pub record Wrote (room : List ℕ) (at : ℕ) (bytes : List ℕ) (next : ℕ) (after : List ℕ) : Type 0 where
  pub ends : next ≡ at + length bytes
  pub laid : after ≡ overlay room at bytes
