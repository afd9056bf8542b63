-- `report::single::report_of` meets its contract. Assumes nothing.
use Rattle.report.proofs.InnerSingle.{valid-is, channels-one}
use Rattle.report.specs.Maps.{map_of}
use Rattle.factor.specs.Farms.{one}
use lib.ListN.{length}
use mathlib.Core.Path.{sym, ◌∙◌}
use Rattle.report.proofs.single.report_of.Goals as goal

pub returns : goal.returns
returns c =
    λ rows columns settings e cells.
    let m = map_of rows columns (one settings) c.args.count.now c.args.factors.now in
    c.report_with.ensures rows columns (one settings) c.args.count.now (cells ∙ sym c.requires.1)
    (c.flow_of.ensures.0 ∙ valid-is m (length c.args.count.now) cells)
    (c.flow_of.ensures.1 ∙ channels-one rows columns c.args.count.now c.args.factors.now (length c.args.count.now) cells settings c.args.rules e)
