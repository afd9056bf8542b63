-- `factor::sine::sine_reaches` meets its contract. Assumes nothing.
use Prim.Native.Nat.{◌+◌, ◌*◌, ◌≤◌}
use native.Mathlib.Nat.{mul-le-mul}
use native.Mathlib.Omega.{arith}
use Rattle.factor.proofs.sine.sine_reaches.Goals as goal

pub overflow_mul-result-4 : goal.overflow_mul-result-4
overflow_mul-result-4 c =
    let square : c.args.u * c.args.u ≤ 1025 * 1025 = mul-le-mul c.requires.1 c.requires.1 in
    let side-square : c.args.side * c.args.side ≤ 100000 * 100000 = mul-le-mul c.requires.0.side-small c.requires.0.side-small in
    let weight : c.args.q + 2 * (c.args.side * c.args.side) ≤ 9000000000000 = omega (arith, side-square) in
    rw c.from-c.ensures (omega (arith, mul-le-mul square weight))

pub returns : goal.returns
returns c = rw c.from-c.ensures
