-- `factor::guess::sine_of` meets its contract. Assumes nothing.
use Prim.Native.Nat.{◌≤◌}
use native.Mathlib.Omega.{arith}
use Rattle.factor.proofs.Sines.{sine-within}
use Rattle.factor.proofs.guess.sine_of.Goals as goal

pub overflow_cast-guesses : goal.overflow_cast-guesses
overflow_cast-guesses c =
    let small : c.sine_by_halves-u.result ≤ 1000 = rw c.sine_by_halves-u.ensures (sine-within _ _) in
    omega (arith, small)
