-- `factor::pass::turn` meets its contract. Assumes nothing.
use Rattle.factor.specs.InnerPass.{farm_by, farm_in}
use Rattle.factor.proofs.InnerTurns.{receiving, turned_on}
use mathlib.Core.Path.{◌≡◌, sym, ◌∙◌}
use Rattle.factor.proofs.pass.turn.Goals as goal

pub hand_on-requires : goal.hand_on-requires
hand_on-requires c =
    let next-other : c.beside-y.result ≡ c.args.x → ⊥ = λ e. c.requires.0.next-other c.if-k-ge8.false (sym c.beside-y.ensures ∙ e) in
    let a = c.args in
    receiving a.terms.now (λ y. farm_in a.terms.now (farm_by a.marks y)) a.direction.now a.count.now a.lengths.now
    a.factors.now a.x
    c.farm_of.ensures c.settle-length.ensures c.beside-y.ensures next-other c.steepness_of-p.ensures
    c.farm_of-2.ensures
    c.requires.0 c.if-k-ge8.false

pub returns : goal.returns
returns c =
    let next-other : c.beside-y.result ≡ c.args.x → ⊥ = λ e. c.requires.0.next-other c.if-k-ge8.false (sym c.beside-y.ensures ∙ e) in
    let a = c.args in
    turned_on a.terms.now (λ y. farm_in a.terms.now (farm_by a.marks y)) a.direction.now a.count.now a.lengths.now
    a.factors.now a.x
    c.farm_of.ensures c.settle-length.ensures c.beside-y.ensures next-other c.steepness_of-p.ensures
    c.farm_of-2.ensures
    c.hand_on.ensures c.if-k-ge8.false
