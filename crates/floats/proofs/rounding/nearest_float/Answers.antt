-- `floats::rounding::nearest_float` meets its contract. Assumes nothing.
use mir.Facts.{to_z-of_z}
use Rattle.floats.proofs.InnerSigns.{minus-float, plus-float}
use Rattle.floats.proofs.rounding.nearest_float.Goals as goal

pub returns-then-n-lt0 : goal.returns-then-n-lt0
returns-then-n-lt0 c =
    rw (c.nearest_magnitude-m.ensures.0, c.unsigned_abs.ensures.value, to_z-of_z c.ranges.n) (minus-float c.args.n (rw (to_z-of_z c.ranges.n) at c.if-n-lt0.true))

pub returns-else-n-lt0 : goal.returns-else-n-lt0
returns-else-n-lt0 c =
    rw (c.nearest_magnitude-m.ensures.0, c.unsigned_abs.ensures.value, to_z-of_z c.ranges.n) (plus-float c.args.n (rw (to_z-of_z c.ranges.n) at c.if-n-lt0.false))
