-- `fullsize::reports::hand_out_answer` meets its contract. Assumes nothing.
use mathlib.Core.Path.{sym, ap, ◌∙◌}
use Prim.Native.Nat.{ℕ}
use Rattle.std.specs.Prelude.{Result}
use Rattle.text.specs.declared.Refusal.{Refusal}
use Rattle.fullsize.specs.Reporting.{reporting, reporting_of}
use Rattle.fullsize.proofs.reports.hand_out_answer.Goals as goal

pub returns-in-Ok : goal.returns-in-Ok
unfolding reporting_of
returns-in-Ok c =
    let a = c.args in
    ap (reporting 0 0) c.hand_out.ensures ∙ sym (ap (λ (x : Result (Unit {0}) Refusal). reporting_of a.numbers.now x a.report) c.in-Ok.is)

pub returns-in-Err : goal.returns-in-Err
unfolding reporting_of
returns-in-Err c =
    let a = c.args in
    ap (λ (n : ℕ). reporting n c.in-Err.refusal.place a.numbers.now) c.number.ensures
    ∙ sym (ap (λ (x : Result (Unit {0}) Refusal). reporting_of a.numbers.now x a.report) c.in-Err.is)
