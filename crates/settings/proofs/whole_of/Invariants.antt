-- What the loops of `settings::whole_of` keep, and what falls. Assumes nothing.
use mathlib.Core.Path.{◌≡◌}
use mathlib.Core.Bool.{false}
use Prim.Native.Nat.{ℕ, ◌<◌}
use lib.Ieee.{eq}
use Rattle.settings.specs.Settings.{quotient}
use Rattle.settings.proofs.whole_of.Given as goal

-- no n so far has the quotient x
abbrev pub invariant-loop-n : goal.invariant-loop-n
invariant-loop-n l = (j : ℕ) → j < l.n → eq l.x (quotient l.parts j) ≡ false
