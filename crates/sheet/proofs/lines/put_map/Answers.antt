-- `sheet::lines::put_map` meets its contract. Assumes nothing.
use mathlib.Core.Path.{ap}
use native.Mathlib.Omega.{arith}
use Rattle.sheet.specs.Lines.{cell_lines, map_lines}
use Rattle.sheet.specs.InnerGrids.{shown}
use Rattle.numerals.proofs.Writing.{wrote_as, wrote_then}
use Rattle.sheet.proofs.lines.put_map.Goals as goal

pub returns : goal.returns
unfolding map_lines
returns c =
    let a = c.args in
    let long = c.requires.1.ground-long in (
      wrote_then c.put_shape-next.ensures.0 (wrote_as (ap (cell_lines a.shape.columns (shown a.grids)) long) c.put_cells.ensures.0),
      omega (arith, c.put_shape-next.ensures.1, c.put_cells.ensures.1, long),
    )
