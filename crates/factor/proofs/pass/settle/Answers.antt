-- `factor::pass::settle` meets its contract. Assumes nothing.
use Rattle.factor.proofs.InnerTurns.{final-small}
use Rattle.factor.proofs.Slopes.{steepness-small}
use Rattle.factor.proofs.Lengths.{start-le}
use Rattle.factor.specs.InnerPass.{length_now}
use Rattle.factor.specs.Inner.{greatest_length, final_length}
use lib.Dec.{ltb}
use lib.ListN.{get_or}
use native.Mathlib.Omega.{arith}
use Prim.Native.Nat.{ℕ, ◌≤◌}
use mathlib.Core.Path.{◌≡◌, ap, ◌∙◌}
use Rattle.factor.proofs.pass.settle.Goals as goal

pub factor_of-requires : goal.factor_of-requires
factor_of-requires c =
    let length-is : let a = c.args in c.final_length-length.result ≡ length_now a.farm a.direction.now a.count.now a.lengths.now a.x = let a = c.args in
    c.final_length-length.ensures
    ∙ ap (λ (i : ℕ). final_length (ltb a.farm.most (get_or a.count.now a.x 0)) i (get_or a.lengths.now a.x 0))
    c.start_length.ensures in
    let length-small : c.final_length-length.result ≤ greatest_length = let a = c.args in
    let code = get_or a.direction.now a.x 0 in
    omega (
      arith,
      length-is,
      final-small (ltb a.farm.most (get_or a.count.now a.x 0)) _ (get_or a.lengths.now a.x 0)
          (start-le code) c.requires.0.gathered-small,
    ) in
    let small = steepness-small {fall = get_or c.args.factors.now c.args.x 0} c.requires.0.fall-small in
    record {
      sloping = record {
        side-some = c.requires.0.sided.side-some;
        side-small = c.requires.0.sided.side-small;
        steepness-small = omega (arith, c.requires.2, small);
      };
      length-small = omega (arith, length-small);
      listed = c.requires.3;
    }
