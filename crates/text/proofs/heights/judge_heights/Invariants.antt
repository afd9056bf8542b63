-- What the loop of `text::heights::judge_heights` keeps. Assumes nothing.
use mathlib.Core.Path.{◌≡◌}
use Prim.Native.Nat.{◌-◌}
use Rattle.text.specs.Heights.{heights}
use Rattle.text.specs.InnerHeights.{forget}
use Rattle.text.proofs.heights.judge_heights.Given as goal

abbrev pub invariant-loop-judged : goal.invariant-loop-judged
invariant-loop-judged l = forget (heights l.n l.count l.s l.initial.rest.at) ≡ forget (heights l.n (l.count - l._judged) l.s l.rest.at)
