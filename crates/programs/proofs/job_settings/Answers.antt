-- `programs::job_settings` meets its contract. Assumes nothing.
use Rattle.std.proofs.Common.{ap, ◌∙◌}
use Rattle.settings.specs.declared.Settings.{Settings}
use Rattle.programs.specs.Settings.{job_settings, printer_settings}
use Rattle.programs.proofs.job_settings.Goals as goal

pub returns : goal.returns
unfolding job_settings printer_settings
returns c =
    ap (λ (s : Settings). record { low = s.low; high = s.high; channel = c.default-default.result.channel; formula = s.formula }) c.printer_settings.ensures
    ∙ ap (λ (s : Settings). record { low = printer_settings.low; high = printer_settings.high; channel = s.channel; formula = printer_settings.formula })
    c.default-default.ensures
