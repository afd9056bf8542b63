-- `report::joins::keep` meets its contract. Assumes nothing.
use mathlib.Core.Path.{refl, ap₂, ◌∙◌}
use native.Mathlib.Omega.{arith}
use Rattle.report.specs.Joins.{kept_of}
use Rattle.report.proofs.InnerJoins.{keeps-first, keeps-second, keeps-only, keeps-new, after-none, some-kept, none-kept}
use Rattle.report.proofs.joins.keep.Goals.{in_default-via-in-Some-second-2+else-earlier-later, in_default-via-in_default}
use Rattle.report.proofs.joins.keep.Goals as goal

pub returns-in-None-second : goal.returns-in-None-second
unfolding kept_of
returns-in-None-second c = rw (c.in-None.is, c.in-None-second.is) (tt, refl)

pub returns-in_err-after-in-Some-second : goal.returns-in_err-after-in-Some-second
returns-in_err-after-in-Some-second c =
    none-kept c.from_residual.ensures (ap₂ (kept_of c.args.maps) c.in-None.is c.in-Some-second.is ∙ keeps-new c.args.maps c.in-Some-second.later)
    c.in_err-after-in-Some-second.ensures

pub returns-in_ok-after-in-Some-second : goal.returns-in_ok-after-in-Some-second
returns-in_ok-after-in-Some-second c =
    let w = c.in_ok-after-in-Some-second.ensures in
    some-kept (ap₂ (kept_of c.args.maps) c.in-None.is c.in-Some-second.is ∙ keeps-new c.args.maps c.in-Some-second.later) w.0 w.1

pub returns-in_err-after-in-Some-second-2 : goal.returns-in_err-after-in-Some-second-2
returns-in_err-after-in-Some-second-2 c =
    none-kept c.from_residual-in_err-after-in-Some-second-2.ensures
    (ap₂ (kept_of c.args.maps) c.in-Some.is c.in-Some-second-2.is ∙ keeps-second c.args.maps c.in-Some.earlier c.in-Some-second-2.later c.if-earlier-later.true)
    c.in_err-after-in-Some-second-2.ensures

pub returns-in_ok-after-in-Some-second-2 : goal.returns-in_ok-after-in-Some-second-2
returns-in_ok-after-in-Some-second-2 c =
    let w = c.in_ok-after-in-Some-second-2.ensures in
    some-kept
    (ap₂ (kept_of c.args.maps) c.in-Some.is c.in-Some-second-2.is ∙ keeps-second c.args.maps c.in-Some.earlier c.in-Some-second-2.later c.if-earlier-later.true)
    w.0 w.1

pub returns-in_err-after-in_default : goal.returns-in_err-after-in_default
returns-in_err-after-in_default c =
    none-kept c.from_residual-in_err-after-in_default.ensures
    (elim c.in_default.branch [
      | in_default-via-in-Some-second-2+else-earlier-later w ↦
          ap₂ (kept_of c.args.maps) c.in-Some.is w.in-Some-second-2.is
          ∙ keeps-first c.args.maps c.in-Some.earlier w.in-Some-second-2.later w.if-earlier-later.false
      | in_default-via-in_default w ↦ ap₂ (kept_of c.args.maps) c.in-Some.is w.in_default.is ∙ keeps-only c.args.maps c.in-Some.earlier
    ])
    (λ h. c.in_err-after-in_default.ensures (omega (arith, h)))

pub returns-in_ok-after-in_default : goal.returns-in_ok-after-in_default
returns-in_ok-after-in_default c =
    let w = c.in_ok-after-in_default.ensures in
    some-kept
    (elim c.in_default.branch [
      | in_default-via-in-Some-second-2+else-earlier-later w ↦
          ap₂ (kept_of c.args.maps) c.in-Some.is w.in-Some-second-2.is
          ∙ keeps-first c.args.maps c.in-Some.earlier w.in-Some-second-2.later w.if-earlier-later.false
      | in_default-via-in_default w ↦ ap₂ (kept_of c.args.maps) c.in-Some.is w.in_default.is ∙ keeps-only c.args.maps c.in-Some.earlier
    ])
    (omega (arith, w.0)) (w.1 ∙ after-none c.in-Some.earlier)
