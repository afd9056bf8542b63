-- `numerals::put_padded` meets its contract. Assumes nothing.
use mathlib.Core.Path.{sym}
use native.Mathlib.Omega.{arith}
use Rattle.numerals.proofs.Decimal.{padded-length}
use Rattle.numerals.proofs.InnerBack.{back_none, padded-back, padded-all}
use Rattle.numerals.proofs.put_padded.Goals as goal

pub loop-i-init : goal.loop-i-init
loop-i-init c = back_none _ _ _ _ (sym (padded-length _ _))

pub loop-i-preserved : goal.loop-i-preserved
loop-i-preserved c = padded-back _ _ _ _ c.loop-i.i c.loop-i.left c.loop-i.invariant (omega arith) c.put_past.ensures

pub returns : goal.returns
returns c = (padded-all _ _ _ _ c.loop-i.i c.loop-i.left c.loop-i.invariant (omega arith), sym (padded-length _ _))
