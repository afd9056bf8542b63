-- `fullsize::crossing::settings_of` meets its contract. Assumes nothing.
use mathlib.Core.Path.{ap₂}
use Rattle.settings.specs.declared.Channel.{Channel}
use Rattle.settings.specs.declared.Formula.{Formula}
use Rattle.fullsize.specs.Crossing.{settings_of}
use Rattle.fullsize.proofs.crossing.settings_of.Goals as goal

pub returns : goal.returns
unfolding settings_of
returns c =
    let a = c.args in
    ap₂ (λ (rule : Channel) (f : Formula). record { low = a.low; high = a.high; channel = rule; formula = f }) c.channel_of.ensures c.formula_of.ensures
