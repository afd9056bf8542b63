-- `programs::printer_settings` meets its contract. Assumes nothing.
use Rattle.std.proofs.Common.{refl}
use lib.Ieee.{of_bits}
use Rattle.settings.specs.Settings.{quotient}
use Rattle.programs.specs.Settings.{printer_settings}
use Rattle.programs.proofs.printer_settings.Goals as goal

pub returns : goal.returns
unfolding of_bits quotient printer_settings
returns c = refl
