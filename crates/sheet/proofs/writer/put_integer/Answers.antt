-- `sheet::writer::put_integer` meets its contract. Assumes nothing.
use mathlib.Core.Path.{sym, ap, ◌∙◌}
use mathlib.Core.List.{◌∷◌}
use Prim.Native.Nat.{ℕ}
use lib.IntN.{nat_abs}
use mir.Facts.{to_z-of_z}
use Rattle.numerals.specs.Words.{decimal}
use Rattle.numerals.proofs.Writing.{wrote_as, wrote_then}
use Rattle.numerals.proofs.Signs.{integer-minus, integer-plus}
use Rattle.sheet.proofs.writer.put_integer.Goals as goal

pub returns-then-z-lt0 : goal.returns-then-z-lt0
returns-then-z-lt0 c =
    let e = c.size.ensures.0 ∙ ap nat_abs (to_z-of_z c.ranges.z) in
    wrote_as (ap (λ (n : ℕ). 45 ∷ decimal n) e ∙ sym (integer-minus c.args.z c.ranges.z c.if-z-lt0.true)) (wrote_then c.put-next.ensures c.put_natural.ensures)

pub returns : goal.returns
returns c =
    let e = c.size-2.ensures.0 ∙ ap nat_abs (to_z-of_z c.ranges.z) in
    wrote_as (ap decimal e ∙ sym (integer-plus c.args.z c.ranges.z c.if-z-lt0.false)) c.put_natural-2.ensures
