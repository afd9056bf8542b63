-- The job has the settings of the former default, field by field, so its sheet of every text is the one that the former default gave. Assumes nothing.
use mathlib.Core.Path.{◌≡◌, refl, ap}
use mathlib.Core.List.{List}
use Prim.Native.Nat.{ℕ}
use Rattle.std.proofs.Common.{Ok}
use Rattle.settings.specs.declared.Threshold.TheVariants.{Share}
use Rattle.settings.specs.declared.Formula.TheVariants.{Older}
use Rattle.settings.specs.Settings.{judged_of, default_settings}
use Rattle.sheet.specs.Sheet.{sheet_of}
use Rattle.programs.specs.Settings.{job_settings, former_default}

pub job-fields :
    (job_settings.low ≡ former_default.low) × (job_settings.high ≡ former_default.high)
    × (job_settings.channel ≡ former_default.channel) × (job_settings.formula ≡ former_default.formula)
unfolding job_settings former_default default_settings
job-fields = (refl, refl, refl, refl)

pub job-is-former : job_settings ≡ former_default
unfolding job_settings former_default default_settings
job-is-former = refl

-- what is printed, for every text
pub job-prints-former : (text : List ℕ) → sheet_of text job_settings ≡ sheet_of text former_default
job-prints-former text = ap (sheet_of text) job-is-former

-- the settings are accepted, and mean 50 percent, 50 percent, 10 tenths of a percent and the older formula
pub job-means : judged_of job_settings ≡ Ok (record { low = 50; high = 50; threshold = Share 10; formula = Older })
unfolding judged_of job_settings default_settings
job-means = refl
