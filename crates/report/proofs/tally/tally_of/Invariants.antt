-- What the loop of `report::tally::tally_of` keeps. Assumes nothing.
use mathlib.Core.Path.{◌≡◌}
use Prim.Native.Nat.{◌≤◌}
use lib.ListN.{length, drop}
use Rattle.std.specs.Slice.Iter.{chunks_rest, chunks_size}
use Rattle.report.specs.InnerCells.{Tallied, FewIn}
use Rattle.report.proofs.tally.tally_of.Given as goal

abbrev pub invariant-loop-block : goal.invariant-loop-block
invariant-loop-block l = record {
  can : goal.iterator-loop-block.can_next l.block-iterator;
  finite : goal.iterator-loop-block.is_finite l.block-iterator;
  size : chunks_size l.block-iterator ≡ 4096;
  rest : chunks_rest l.block-iterator ≡ drop l.from l.factors;
  inside : l.from ≤ length l.factors;
  tallied : Tallied l.factors l.from l.tally;
  few : FewIn l.tally l.from;
}
