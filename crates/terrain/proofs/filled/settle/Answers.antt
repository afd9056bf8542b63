-- `terrain::filled::settle` meets its contract. Assumes nothing.
use Rattle.std.proofs.Common.{sym, subst}
use Rattle.laws.proofs.Settle.{start-kept, settling-more}
use Rattle.terrain.specs.Cells.{levels_of}
use Rattle.terrain.specs.Filled.{filling}
use Rattle.terrain.specs.InnerFlood.{FillKept, Stands}
use Rattle.terrain.proofs.Filling.{filling-rule, filled_is}
use Rattle.terrain.proofs.filled.settle.Goals as goal

pub loop-init : goal.loop-init
loop-init c =
    let g = c.args.ground in
    subst (FillKept g.rows g.columns g.elevation.now) (sym c.restart.ensures) (start-kept _ _ (filling-rule _ _ _ g.ready))

pub returns : goal.returns
returns c =
    let g = c.args.ground in
    let s = settling-more (filling g.rows g.columns (levels_of g.elevation.now)) (Stands g.rows g.columns g.elevation.now) (filling-rule _ _ _ g.ready) c.loop.level c.sweep.new.level c.sweep.result c.loop.invariant c.sweep.ensures in
    filled_is _ _ _ g.ready c.sweep.new.level s.kept (s.still c.loop-test.false)
