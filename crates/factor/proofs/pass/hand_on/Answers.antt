-- `factor::pass::hand_on` meets its contract. Assumes nothing.
use Rattle.factor.proofs.InnerTurns.{brought-small}
use Rattle.factor.proofs.Slopes.{steepness-small}
use Rattle.factor.proofs.Lengths.{start-le}
use Rattle.factor.specs.Inflow.{start_length}
use lib.ListN.{get_or}
use native.Mathlib.Omega.{arith}
use mathlib.Core.Path.{◌≡◌, ◌∙◌, ap}
use Rattle.factor.proofs.pass.hand_on.Goals as goal

pub brought-amount-requires : goal.brought-amount-requires
brought-amount-requires c = (
  c.requires.sided,
  c.requires.inflow-small,
  omega (arith, c.steepness_of.ensures, steepness-small {fall = get_or c.args.factors.now c.args.y 0} c.requires.fall-small),
  c.requires.length-small,
  (c.requires.rules, c.requires.ruled),
)

pub overflow_add-amount : goal.overflow_add-amount
overflow_add-amount c =
    let started : c.start_length.result ≡ start_length (get_or c.args.direction.now c.args.y 0) = c.start_length.ensures ∙ ap start_length {y = get_or c.args.direction.now c.args.y 0} (omega arith) in
    let least = start-le (get_or c.args.direction.now c.args.y 0) in
    let small = brought-small c.args.side c.requires.rules c.args.k c.args.p c.steepness_of.result c.start_length.result c.args.length
    (omega (arith, started, least)) c.requires.length-small in
    omega (arith, c.brought-amount.ensures c.requires.rules c.requires.ruled, small)
