-- `factor::steepness::steepness_factor` meets its contract. Assumes nothing.
use mathlib.Core.Path.{◌≡◌, sym, ap, ap₂, ◌∙◌}
use Prim.Native.Nat.{ℕ, ◌≤◌, max}
use native.Mathlib.Omega.{arith}
use Rattle.settings.specs.declared.Formula.{Formula}
use Rattle.factor.specs.Steepness.{older_factor, is_steep, newer_factor, counted, steepness_factor}
use Rattle.factor.proofs.Sines.{sine-within}
use Rattle.factor.proofs.Steepnesses.{nine-percent, steep-sine, counted-above}
use Rattle.factor.proofs.steepness.steepness_factor.Goals as goal

pub older_factor-requires : goal.older_factor-requires
older_factor-requires c =
    let sine-small : c.sine_of-u.result ≤ 1000 = let a = c.args in omega (arith, c.sine_of-u.ensures, sine-within a.side a.q) in
    sine-small

pub newer_factor-requires : goal.newer_factor-requires
newer_factor-requires c =
    let sine-small : c.sine_of-u.result ≤ 1000 = let a = c.args in omega (arith, c.sine_of-u.ensures, sine-within a.side a.q) in
    let steep-is : let a = c.args in c.is_at_least-steep.result ≡ is_steep a.side a.q = let a = c.args in c.is_at_least-steep.ensures ∙ sym (nine-percent a.side a.q) in
    let a = c.args in (
      omega (arith, c.max.ensures, sine-small),
      λ e. omega (arith, c.max.ensures, counted-above c.sine_of-u.result, c.sine_of-u.ensures, steep-sine a.side a.q (sym steep-is ∙ e)),
    )

pub returns-in-Older : goal.returns-in-Older
unfolding steepness_factor
returns-in-Older c =
    let a = c.args in
    c.older_factor.ensures ∙ ap older_factor c.sine_of-u.ensures ∙ ap (λ (f : Formula). steepness_factor f a.side a.q) (sym c.in-Older.is)

pub returns-in-Newer : goal.returns-in-Newer
unfolding steepness_factor counted
returns-in-Newer c =
    let steep-is : let a = c.args in c.is_at_least-steep.result ≡ is_steep a.side a.q = let a = c.args in c.is_at_least-steep.ensures ∙ sym (nine-percent a.side a.q) in
    let a = c.args in
    c.newer_factor.ensures
    ∙ ap₂ newer_factor steep-is (c.max.ensures ∙ ap (λ (u : ℕ). max u 1) c.sine_of-u.ensures)
    ∙ ap (λ (f : Formula). steepness_factor f a.side a.q) (sym c.in-Newer.is)
