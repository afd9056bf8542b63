-- `report::single::report_in` meets its contract. Assumes nothing.
use Rattle.report.proofs.InnerSingle.{valid-is, channels-two}
use Rattle.report.specs.Maps.{map_of}
use Rattle.factor.specs.Farms.{two}
use lib.ListN.{length}
use mathlib.Core.Path.{sym, ◌∙◌}
use Rattle.report.proofs.single.report_in.Goals as goal

pub returns : goal.returns
returns c =
    let a = c.args in
    let l = a.factors.now in
    let count = a.count.now in
    λ rows columns f g e h cells.
    let m = map_of rows columns (two f g a.marks.now) count l in
    c.report_with.ensures rows columns (two f g a.marks.now) count (cells ∙ sym c.requires.1)
    (c.flow_in.ensures.0 ∙ valid-is m (length count) cells)
    (c.flow_in.ensures.1 ∙ channels-two rows columns count l (length count) cells f g a.marks.now a.rules.first a.rules.second e h)
