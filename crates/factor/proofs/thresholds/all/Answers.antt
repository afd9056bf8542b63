-- `factor::thresholds::all` meets its contract. Assumes nothing.
use mathlib.Core.Path.{refl}
use Rattle.factor.proofs.Power.{listed}
use Rattle.factor.proofs.thresholds.all.Goals as goal

pub returns : goal.returns
returns c = listed refl
