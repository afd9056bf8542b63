-- What is lent to a call, as its contract names it: as it is at the call, and as it is at the return. Assumes nothing.
use Rattle.std.specs.Prelude.{List}
use Rattle.std.specs.Borrow.{MutBor}
use denote.Triple.Both.{Both}

-- a lent value
abbrev pub Lent : Type 0 → Type 0
Lent A = Both (MutBor A) (MutBor A)

-- a lent slice
abbrev pub Slice : Type 0 → Type 0
Slice A = Lent (List A)
