-- `terrain::surface::Surface::settle` meets its contract. Assumes nothing.
use Rattle.laws.proofs.Settle.{settling-more}
use Rattle.terrain.specs.Flat.{flat_stepping}
use Rattle.terrain.specs.InnerFlats.{Within}
use Rattle.terrain.proofs.Flats.{flat-rule, steps-are}
use Rattle.terrain.proofs.surface.Surface.settle.Goals as goal

pub returns : goal.returns
returns c =
    let s = c.args.self in
    let t = settling-more (flat_stepping s.rows s.columns s.level.now) (Within s.rows s.columns s.level.now) (flat-rule s.rows s.columns s.level.now s.levels.long) c.loop.steps c.sweep.new.steps c.sweep.result c.loop.invariant c.sweep.ensures in
    steps-are s.rows s.columns s.level.now s.levels.long c.sweep.new.steps t.kept (t.still c.loop-test.false)
