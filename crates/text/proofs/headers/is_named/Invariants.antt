-- What the loop of `text::headers::is_named` keeps. Assumes nothing.
use mathlib.Core.Path.{◌≡◌}
use Prim.Native.Nat.{◌+◌}
use lib.ListN.{drop}
use Rattle.text.specs.Headers.{named}
use Rattle.text.proofs.headers.is_named.Given as goal

abbrev pub invariant-loop-i : goal.invariant-loop-i
invariant-loop-i l = named l.s l.a l.e l.n ≡ named l.s (l.a + l.i) l.e (drop l.i l.n)
