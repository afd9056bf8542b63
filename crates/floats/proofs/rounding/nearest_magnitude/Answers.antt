-- `floats::rounding::nearest_magnitude` meets its contract. Assumes nothing.
use mathlib.Core.Path.{◌≡◌, sym, ap, ◌∙◌, subst}
use Prim.Native.Nat.{ℕ, ◌+◌, ◌*◌}
use native.Mathlib.Omega.{arith}
use Rattle.floats.specs.Rounding.{nearest_magnitude}
use Rattle.floats.proofs.InnerMagnitude.{raised-pos, raised-more}
use Rattle.floats.proofs.InnerMagnitude.{doubled-few, magnitude-is}
use Rattle.floats.proofs.Closest.{zero-magnitude}
use Rattle.floats.proofs.rounding.nearest_magnitude.Goals as goal

pub returns-then-n-eq0 : goal.returns-then-n-eq0
returns-then-n-eq0 c = (subst (λ (k : ℕ). 0 ≡ nearest_magnitude k) (sym c.if-n-eq0.true) zero-magnitude, omega arith)

pub loop-m-preserved : goal.loop-m-preserved
loop-m-preserved c = raised-more _ _ _ (raised-pos _ _ _ (omega (arith, c.if-n-eq0.false)) c.loop-m-test.true c.loop-m.invariant) c.loop-m-test.true c.loop-m.invariant

pub overflow_add-e : goal.overflow_add-e
overflow_add-e c = omega (arith, doubled-few _ _ _ _ _ c.loop-d.invariant)

pub overflow_mul-result : goal.overflow_mul-result
overflow_mul-result c = omega (arith, doubled-few _ _ _ _ _ c.loop-d.invariant)

pub overflow_add-result : goal.overflow_add-result
overflow_add-result c = omega (arith, c.quotient.ensures.1, doubled-few _ _ _ _ _ c.loop-d.invariant)

pub returns : goal.returns
returns c = (
  ap (λ (k : ℕ). c.loop-d.e * 8388608 + k) c.quotient.ensures.0
      ∙ magnitude-is _ _ _ _ _ c.loop-d.invariant (omega (arith, c.if-n-eq0.false)) (omega (arith, c.loop-d-test.false)),
  omega (arith, c.quotient.ensures.1, doubled-few _ _ _ _ _ c.loop-d.invariant),
)
