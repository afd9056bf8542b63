-- `floats::cells::height_of` meets its contract. Assumes nothing.
use mathlib.Core.Path.{sym, ap, ◌∙◌}
use Prim.Native.Nat.{ℕ, ◌≤◌}
use native.Mathlib.Omega.{arith}
use lib.IntN.{pos, neg_ℤ}
use Rattle.floats.proofs.InnerFaults.{plus-cm, minus-cm, height-no-data, height-other, bits-few, size_few, plus-fits, plus-is, minus-fits, minus_is}
use Rattle.floats.proofs.cells.height_of.Goals.{After-centimetres-cm}
use Rattle.floats.proofs.cells.height_of.Goals as goal

few : (c : After-centimetres-cm) → c.centimetres-cm.result ≤ 900000
few c = rw c.centimetres-cm.ensures (size_few c.args.v c.args.bits c.requires (cc))

pub returns-then-is_equal : goal.returns-then-is_equal
returns-then-is_equal c = height-no-data _ _ (cc)

pub centimetres-cm-requires : goal.centimetres-cm-requires
centimetres-cm-requires c = omega (arith, bits-few c.args.v c.args.bits c.requires (cc))

pub overflow_cast-cm : goal.overflow_cast-cm
overflow_cast-cm c = plus-fits _ (few (goal.at.overflow_cast-cm c).After-centimetres-cm)

pub returns-then-bits-lt-MINUS : goal.returns-then-bits-lt-MINUS
returns-then-bits-lt-MINUS c =
    plus-is _ (few (goal.at.returns-then-bits-lt-MINUS c).After-centimetres-cm) ∙ ap pos c.centimetres-cm.ensures
    ∙ sym (plus-cm _ c.if-bits-lt-MINUS.true) ∙ height-other _ _ c.requires (cc)

pub overflow_sub-result : goal.overflow_sub-result
overflow_sub-result c = minus-fits _ (few (goal.at.overflow_sub-result c).After-centimetres-cm)

pub returns-else-bits-lt-MINUS : goal.returns-else-bits-lt-MINUS
returns-else-bits-lt-MINUS c =
    minus_is _ (few (goal.at.returns-else-bits-lt-MINUS c).After-centimetres-cm) ∙ ap (λ (k : ℕ). neg_ℤ (pos k)) c.centimetres-cm.ensures
    ∙ sym (minus-cm _ c.if-bits-lt-MINUS.false) ∙ height-other _ _ c.requires (cc)
