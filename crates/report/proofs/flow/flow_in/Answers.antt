-- `report::flow::flow_in` meets its contract. Assumes nothing.
use mathlib.Core.Path.{◌∙◌}
use mathlib.Core.List.{[], ◌∷◌}
use lib.ListN.{get_or}
use Rattle.factor.specs.Farms.{farm_at}
use Rattle.report.proofs.InnerFlow.{channels-shared}
use Rattle.report.proofs.flow.flow_in.Goals as goal

pub returns : goal.returns
returns c =
    let a = c.args in
    let l = a.count.now in
    let p = c.bound_for-bound.result in
    let q = c.bound_for-bound_second.result in (
      c.count_above.ensures.valid,
      c.count_above.ensures.channel (λ x. get_or (p ∷ q ∷ []) (farm_at a.marks.now x) 0) (λ x r h t. t)
          ∙ channels-shared a.rules.first a.rules.second a.marks.now l p q c.requires.1 c.bound_for-bound.ensures c.bound_for-bound_second.ensures,
    )
