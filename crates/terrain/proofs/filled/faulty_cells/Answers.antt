-- `terrain::filled::faulty_cells` meets its contract. Assumes nothing.
use Rattle.std.proofs.Common.{get_or, refl, arith}
use Rattle.laws.proofs.Search.{failing-join}
use Rattle.terrain.specs.InnerFlood.{FaultyCell}
use Rattle.terrain.proofs.InnerFlooding.{cell-faulty}
use Rattle.terrain.proofs.filled.faulty_cells.Goals as goal

pub overflow_add-sum-in-loop-x : goal.overflow_add-sum-in-loop-x
overflow_add-sum-in-loop-x c =
    let told : FaultyCell (get_or c.args.level.now c.run_end-end.result 0) c.level_at.result c.lowest_near.result c.faulty-sum.result = c.faulty-sum.ensures _ refl in
    omega (arith, c.loop-x.invariant.1.few, c.faulty_run-sum.ensures.few, told.few, c.run_end-end.ensures.within, c.args.ground.ready.small)

pub loop-x-preserved : goal.loop-x-preserved
loop-x-preserved c =
    let told : FaultyCell (get_or c.args.level.now c.run_end-end.result 0) c.level_at.result c.lowest_near.result c.faulty-sum.result = c.faulty-sum.ensures _ refl in (
      omega (arith, c.run_end-end.ensures.within, c.requires),
      failing-join (failing-join c.loop-x.invariant.1 c.faulty_run-sum.ensures)
          (cell-faulty c.args.ground.rows c.args.ground.columns c.args.ground.elevation.now c.args.level.now c.run_end-end.result _ _ _ _ refl c.level_at.ensures c.lowest_near.ensures told),
    )
