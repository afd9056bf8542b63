-- `numerals::put_all` meets its contract. Assumes nothing.
use native.Mathlib.Omega.{arith}
use Rattle.numerals.proofs.Writing.{wrote-more}
use Rattle.numerals.proofs.put_all.Goals as goal

pub loop-i-preserved : goal.loop-i-preserved
loop-i-preserved c =
    let a = c.args in (
      omega arith,
      wrote-more a.out.now a.at a.bytes.now c.loop-i.i (omega arith) c.loop-i.invariant.1
          (record { ends = omega arith; laid = c.put_past.ensures }),
    )
