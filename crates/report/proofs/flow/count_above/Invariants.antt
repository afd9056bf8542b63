-- What the loop of `report::flow::count_above` keeps. Assumes nothing.
use mathlib.Core.Path.{◌≡◌}
use Prim.Native.Nat.{ℕ, ◌≤◌, ◌<◌}
use lib.ListN.{length, get_or}
use lib.Dec.{ltb}
use Rattle.report.specs.Maps.{is_zero}
use Rattle.report.specs.InnerCells.{count_to, cells_to}
use Rattle.report.proofs.flow.count_above.Given as goal

abbrev pub invariant-loop-x : goal.invariant-loop-x
invariant-loop-x g l = record {
  dry : l.dry ≡ count_to is_zero l.count l.x;
  few : l.channel ≤ l.x;
  channel : (b : ℕ → ℕ) → ((x r : ℕ) → x < length l.count → g.F.Fn.post l.bound_at (x, tt) r → r ≡ b x) →
      l.channel ≡ cells_to (λ x. ltb (b x) (get_or l.count x 0)) l.x;
}
