-- `report::add_farms` meets its contract. Assumes nothing.
use mathlib.Core.Path.{sym, ap, subst, ◌∙◌}
use Prim.Native.Nat.{ℕ}
use native.Mathlib.Omega.{arith}
use Rattle.std.proofs.lemmas.Result.{err_from_is_err_and}
use Rattle.factor.specs.Farms.{Marked}
use Rattle.report.specs.Answers.{after_join}
use Rattle.report.proofs.InnerAdditions.{found-unsound, passed-long, passed-few, passed-marked, farms-passed}
use Rattle.report.proofs.Additions.{add-joins}
use Rattle.report.proofs.add_farms.Goals as goal

pub report_in-requires : goal.report_in-requires
report_in-requires c =
    let a = c.args in
    let p = (farms-passed c.in_ok-rules.ensures).0 in
    let w = passed-long _ p in (
      omega (arith, w.0, passed-few _ p),
      w.1 ∙ sym w.0,
      subst (λ (n : ℕ). Marked n a.marks.now) (sym w.0) (passed-marked a.rows a.columns a.first a.second a.marks.now a.count.now a.factors.now p),
    )

pub returns-in_err-rules : goal.returns-in_err-rules
returns-in_err-rules c =
    let p = err_from_is_err_and c.from_residual.result c.from_residual.ensures.1 in
    rw (p.1, p.2) (found-unsound _ _ c.in_err-rules.ensures.verdict-is)

pub returns : goal.returns
returns c =
    let a = c.args in
    let p = farms-passed c.in_ok-rules.ensures in
    c.join.ensures
    ∙ ap (after_join a.report.now) (c.report_in.ensures a.rows a.columns a.first a.second p.1.0 p.1.1 (sym (passed-long _ p.0).0))
    ∙ sym (add-joins a.report.now _ p.0)
