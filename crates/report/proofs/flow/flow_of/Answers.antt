-- `report::flow::flow_of` meets its contract. Assumes nothing.
use mathlib.Core.Path.{◌∙◌}
use Rattle.std.proofs.Common.{rules}
use Rattle.report.proofs.InnerFlow.{cells-count, channels-counted}
use Rattle.report.proofs.flow.flow_of.Goals as goal

pub returns : goal.returns
returns c =
    let a = c.args in
    let b = c.bound_for-bound.result in (
      c.count_above.ensures.valid,
      c.count_above.ensures.channel (λ x. b) (λ x r h e. search rules) ∙ cells-count b a.count.now ∙ channels-counted a.threshold a.count.now b c.bound_for-bound.ensures,
    )
