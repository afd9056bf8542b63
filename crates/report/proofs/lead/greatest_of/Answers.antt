-- `report::lead::greatest_of` meets its contract. Assumes nothing.
use mathlib.Core.Path.{◌≡◌, refl, sym, ap, ◌∙◌}
use mathlib.Core.List.{List}
use Prim.Native.Nat.{ℕ, ◌+◌, ◌-◌}
use native.Mathlib.Omega.{arith}
use Rattle.report.specs.Reports.{found}
use lib.ListN.{length, take, drop}
use lib.Dec.{eqb}
use Rattle.std.proofs.Common.{Option}
use Rattle.std.specs.List.{position}
use Rattle.std.proofs.lemmas.List.{take_all, length-drop}
use Rattle.report.proofs.InnerSingle.{lead-nothing, lead-stands, lead-found}
use Rattle.report.proofs.lead.greatest_of.Goals as goal

pub returns-in_err-v : goal.returns-in_err-v
returns-in_err-v c = λ m e n.
    c.from_residual.ensures
    ∙ lead-nothing m c.args.factors.now (length c.args.factors.now) e n c.args.lead c.requires (omega (arith, c.in_err-v.ensures))

-- the search looks through all that follows
place_is : (l : List ℕ) (n v : ℕ) {o : Option ℕ} → o ≡ position (λ w. eqb w v) (take (length l - n) (drop n l)) → o ≡ position (λ w. eqb w v) (drop n l)
place_is l n v e = e ∙ ap (position (λ w. eqb w v)) (take_all (length l - n) (drop n l) (omega (arith, length-drop n l)))

pub returns-in_err-after : goal.returns-in_err-after
returns-in_err-after c = λ m e n.
    let l = c.args.factors.now in
    absurd (lead-stands m l (length l) e n c.args.lead c.requires c.in_ok-v.v (omega (arith, c.in_ok-v.ensures)) refl
    (sym (place_is l c.args.lead.from c.in_ok-v.v c.place_of.ensures) ∙ c.in_err-after.was))

pub returns : goal.returns
returns c = λ m e n.
    let l = c.args.factors.now in
    ap (λ (v : ℕ). found v 0 (c.args.lead.from + c.in_ok-after.after)) c.from.ensures
    ∙ lead-found m l (length l) e n c.args.lead c.requires c.in_ok-v.v (omega (arith, c.in_ok-v.ensures)) c.in_ok-after.after
    (sym (place_is l c.args.lead.from c.in_ok-v.v c.place_of.ensures) ∙ c.in_ok-after.was)
