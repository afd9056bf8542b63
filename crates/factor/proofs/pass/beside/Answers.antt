-- `factor::pass::beside` meets its contract. Assumes nothing.
use Prim.Native.Nat.{◌+◌, ◌*◌}
use mathlib.Core.Path.{◌≡◌}
use native.Mathlib.Omega.{arith}
use lib.ListN.{get_or}
use Rattle.terrain.specs.Cells.{row_steps, col_steps}
use Rattle.terrain.specs.InnerCells.{beside_of}
use Rattle.factor.proofs.pass.beside.Goals as goal

pub returns : goal.returns
unfolding beside_of
returns c =
    let read : get_or c.args.shifts.now c.args.k 0 ≡ get_or row_steps c.args.k 0 * c.args.columns + get_or col_steps c.args.k 0 = c.requires.1.steps c.args.k c.requires.0.bearing-small in
    omega (arith, read, c.requires.0.room)
