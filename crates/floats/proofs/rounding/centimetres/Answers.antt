-- `floats::rounding::centimetres` meets its contract. Assumes nothing.
use mathlib.Core.Path.{◌∙◌}
use native.Mathlib.Omega.{arith}
use Rattle.floats.proofs.Units.{cm-tiny, cm-shift}
use Rattle.floats.proofs.rounding.centimetres.Goals as goal

pub returns-then-e-lt118 : goal.returns-then-e-lt118
returns-then-e-lt118 c = cm-tiny _ c.if-e-lt118.true

pub returns : goal.returns
returns c = c.shifted.ensures.0 ∙ cm-shift c.args.m c.if-e-lt118.false (omega (arith, c.requires))
