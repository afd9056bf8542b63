-- `settings::Settings::default` meets its contract. Assumes nothing.
use mathlib.Core.Path.{refl}
use lib.Ieee.{of_bits}
use Rattle.settings.specs.Settings.{default_settings}
use Rattle.settings.proofs.SettingsDefault.default.Goals as goal

pub returns : goal.returns
unfolding default_settings of_bits
returns c = refl
