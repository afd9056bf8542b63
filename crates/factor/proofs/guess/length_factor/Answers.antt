-- `factor::guess::length_factor` meets its contract. Assumes nothing.
use Prim.Native.Nat.{◌≤◌}
use native.Mathlib.Omega.{arith}
use Rattle.factor.proofs.Factors.{length-factor-within}
use Rattle.factor.proofs.guess.length_factor.Goals as goal

pub overflow_cast-guesses : goal.overflow_cast-guesses
overflow_cast-guesses c =
    let small : c.length_factor_by_halves-t.result ≤ 1000 = rw c.length_factor_by_halves-t.ensures (length-factor-within _ _) in
    omega (arith, small)
