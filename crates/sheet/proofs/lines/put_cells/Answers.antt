-- `sheet::lines::put_cells` meets its contract. Assumes nothing.
use native.Mathlib.Omega.{arith}
use borrow.Author.Rules.{rules}
use lib.IntN.{pos}
use lib.ListN.{get_or}
use mir.Facts.{to_z-of_z}
use mir.Syntax.{w32}
use mir.Val.{SFits}
use Rattle.sheet.specs.InnerGrids.{shown}
use Rattle.sheet.proofs.InnerShown.{cells-none, cells-more}
use Rattle.sheet.proofs.lines.put_cells.Goals as goal

pub loop-x-init : goal.loop-x-init
loop-x-init c = (cells-none c.args.columns (shown c.args.grids) c.args.out.now c.args.at, omega arith)

pub loop-x-preserved : goal.loop-x-preserved
loop-x-preserved c =
    let e : SFits w32 (get_or c.args.grids.elevation.now c.loop-x.x (pos 0)) = search rules in
    let f : SFits w32 (get_or c.args.grids.filled.now c.loop-x.x (pos 0)) = search rules in (
      cells-more c.args.columns (shown c.args.grids) c.loop-x.x _ (simp to_z-of_z) c.loop-x.invariant.0 c.put_cell-next.ensures.0,
      omega (arith, c.put_cell-next.ensures.1, c.loop-x.invariant.1),
    )
