-- What the loops of `factor::pass::measure` keep, and what falls. Assumes nothing.
use Rattle.factor.proofs.InnerWalking.{Walking, Charted}
use Rattle.factor.specs.InnerPass.{farm_by, farm_in}
use Rattle.settings.specs.declared.Rules.{Rules}
use lib.ListN.{length}
use Prim.Native.Nat.{ℕ}
use mathlib.Core.List.{List}
use mathlib.Core.Path.{◌≡◌}
use Rattle.factor.proofs.pass.measure.Given as goal

abbrev pub invariant-loop-cell : goal.invariant-loop-cell
invariant-loop-cell l = (length l.lengths ≡ length l.initial.lengths) × (length l.factors ≡ length l.initial.factors)
    × ((rows : ℕ) (lv : List ℕ) (rules : ℕ → Rules) → Charted rows lv rules l.terms (λ y. farm_in l.terms (farm_by l.marks y)) l.direction l.count l.order →
    Walking rows l.terms.columns l.terms.side rules lv l.direction l.count l.order l.initial.lengths l.initial.factors 0 →
    Walking rows l.terms.columns l.terms.side rules lv l.direction l.count l.order l.lengths l.factors l.cell-index)
