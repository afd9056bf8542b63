-- RULES 7.1: which settings are accepted, and what they mean in whole numbers. Assumes nothing.
use Rattle.std.specs.Prelude.{Bool, true, cond, ℕ, suc, pos, leb, Float, Option, Some, None, Result, Ok, Err}
use Rattle.std.specs.Float.{binary64}
use Rattle.std.specs.Float.Ieee.{div, of_int, eq}
use Rattle.laws.specs.First.{first_of}
use Rattle.laws.specs.Tests.{Test, passed, failed}
use Rattle.settings.specs.declared.Channel.{Channel}
use Rattle.settings.specs.declared.Channel.TheVariants.{Percentage, Cells, NoChannel}
use Rattle.settings.specs.declared.Formula.TheVariants.{Older}
use Rattle.settings.specs.declared.Settings.{Settings}
use Rattle.settings.specs.declared.Threshold.{Threshold}
use Rattle.settings.specs.declared.Threshold.TheVariants.{Share, Over, Never}
use Rattle.settings.specs.declared.Rules.{Rules}
use Rattle.settings.specs.declared.Setting.{Setting}
use Rattle.settings.specs.declared.Setting.TheVariants as setting

-- the float quotient n / d, rounded once
unfoldable pub quotient : ℕ → ℕ → Float
unfolding div of_int
quotient d n = div binary64 (of_int binary64 (pos n)) (of_int binary64 (pos d))

-- The whole n from 0 to top whose quotient n / d equals x; top + 1 where there is none. Equality is that of floats: minus zero equals 0, and NaN equals nothing.
unfoldable pub whole_of : ℕ → ℕ → Float → ℕ
unfolding first_of eq quotient
whole_of d top x = first_of (λ n. eq x (quotient d n)) (suc top)

-- that n where it is at most top
abbrev pub whole_up_to : ℕ → ℕ → Option ℕ
whole_up_to top n = cond (leb n top) (Some n) None

-- A cutoff is accepted exactly if it equals the float quotient n / 100 for a whole n from 0 to 100, and then means n percent.
unfoldable pub cutoff_of : Float → ℕ
unfolding whole_of
cutoff_of x = whole_of 100 100 x

-- The percentage is a 64-bit float and must equal n / 10 for a whole n from 0 to 1,000. Any 32-bit number of cells is accepted.
unfoldable pub threshold_of : Channel → Threshold
unfolding whole_of
threshold_of (Percentage x) = Share (whole_of 10 1000 x)
threshold_of (Cells n) = Over n
threshold_of NoChannel = Never

unfoldable pub threshold_accepted : Threshold → Bool
threshold_accepted (Share n) = leb n 1000
threshold_accepted (Over n) = true
threshold_accepted Never = true

-- what accepted settings mean; the steepness formula, the older or the newer one, means itself
unfoldable pub rules_of : Settings → Rules
unfolding cutoff_of threshold_of
rules_of s = record { low = cutoff_of s.low; high = cutoff_of s.high; threshold = threshold_of s.channel; formula = s.formula }

-- the first bad one of low cutoff, high, channel
unfoldable pub verdict_of : Rules → Result Rules Setting
unfolding threshold_accepted
verdict_of rules =
    cond (leb rules.low 100)
    (cond (leb rules.high 100) (cond (threshold_accepted rules.threshold) (Ok rules) (Err setting.Channel)) (Err setting.High)) (Err setting.Low)

unfoldable pub judged_of : Settings → Result Rules Setting
unfolding rules_of verdict_of
judged_of s = verdict_of (rules_of s)

-- the place of a bad setting: 1 low cutoff, 2 high, 3 channel
abbrev pub place_of : Setting → ℕ
place_of setting.Low = 1
place_of setting.High = 2
place_of setting.Channel = 3

-- the number and the place of each case
abbrev pub told : Result Rules Setting → Test
told (Ok rules) = passed
told (Err s) = failed 4 (place_of s)

-- 4: a setting not accepted; place: the first bad one of 1 low cutoff, 2 high, 3 channel
unfoldable pub settings_test : Settings → Test
unfolding judged_of
settings_test s = told (judged_of s)

-- the library's defaults: low cutoff 0.7, high cutoff 0.5, percentage 1.0, the older formula
unfoldable pub default_settings : Settings
unfolding quotient
default_settings = record { low = quotient 100 70; high = quotient 100 50; channel = Percentage (quotient 10 10); formula = Older }
