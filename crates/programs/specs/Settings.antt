-- RULES 9.3: the settings of the job and of the printer. Assumes nothing.
use Rattle.settings.specs.declared.Channel.TheVariants.{Percentage, NoChannel}
use Rattle.settings.specs.declared.Formula.TheVariants.{Older}
use Rattle.settings.specs.declared.Settings.{Settings}
use Rattle.settings.specs.Settings.{quotient, default_settings}

-- cutoffs 0.5, the channel rule of the library's default, and the older formula
unfoldable pub job_settings : Settings
unfolding quotient default_settings
job_settings = record { low = quotient 100 50; high = quotient 100 50; channel = default_settings.channel; formula = Older }

-- the library's default as it was while the low cutoff was 0.5: what the job's growers have always had
unfoldable pub former_default : Settings
unfolding quotient
former_default = record { low = quotient 100 50; high = quotient 100 50; channel = Percentage (quotient 10 10); formula = Older }

-- the printer's: cutoffs 0.5, no channels, and the older formula
unfoldable pub printer_settings : Settings
unfolding quotient
printer_settings = record { low = quotient 100 50; high = quotient 100 50; channel = NoChannel; formula = Older }
