-- `floats::cells::judge` meets its contract. Assumes nothing.
use mathlib.Core.Path.{◌≡◌, ap, ◌∙◌, subst}
use native.Mathlib.Omega.{arith}
use Rattle.text.specs.Faults.{number_of}
use Rattle.text.proofs.FaultNumbers.{number-some}
use Rattle.floats.specs.Floats.{bits_at}
use Rattle.floats.specs.Answers.{fault_of}
use Rattle.floats.proofs.InnerCells.{ClearTo, judged-fault, judged-all}
use Rattle.floats.proofs.cells.judge.Goals as goal

pub returns-in-Some : goal.returns-in-Some
returns-in-Some c =
    let e : number_of c.in-Some.fault ≡ fault_of c.args.v (bits_at c.args.floats.now c.loop-place.place) = c.in-Some.ensures ∙ ap (fault_of c.args.v) c.bits_at.ensures in
    rw e (judged-fault _ _ _ _ c.loop-place-test.true c.loop-place.invariant (λ z. number-some c.in-Some.fault (e ∙ z)))

pub returns : goal.returns
returns c = judged-all _ _ _ (subst (ClearTo c.args.v c.args.floats.now) (omega arith) c.loop-place.invariant)
