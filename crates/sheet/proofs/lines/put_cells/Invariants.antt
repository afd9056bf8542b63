-- What the loop of `sheet::lines::put_cells` keeps. Assumes nothing.
use Prim.Native.Nat.{◌+◌, ◌*◌, ◌≤◌}
use Rattle.numerals.specs.Writing.{Wrote}
use Rattle.sheet.specs.Lines.{cell_lines}
use Rattle.sheet.specs.InnerGrids.{shown}
use Rattle.sheet.proofs.lines.put_cells.Given as goal

abbrev pub invariant-loop-x : goal.invariant-loop-x
invariant-loop-x l = Wrote l.initial.out l.at (cell_lines l.columns (shown l.grids) l.x) l.next l.out × (l.next ≤ l.at + 150 * l.x)
