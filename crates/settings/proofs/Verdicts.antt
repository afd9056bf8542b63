-- What a verdict on settings says: the test of the settings, and the rules that they mean. Assumes nothing.
use mathlib.Core.Path.{◌≡◌, refl, ap}
use mathlib.Core.Bool.{Bool, true, false, cond}
use lib.Dec.{leb}
use Rattle.laws.specs.Tests.{passed, failed}
use Rattle.settings.specs.declared.Settings.{Settings}
use Rattle.settings.specs.declared.Rules.{Rules}
use Rattle.settings.specs.declared.Setting.{Setting}
use Rattle.settings.specs.declared.Setting.TheVariants as setting
use Rattle.std.proofs.Common.{Result, Ok, Err}
use Rattle.settings.specs.Settings.{threshold_accepted, rules_of, verdict_of, judged_of, place_of, told, settings_test}

-- ---- rules that are accepted

-- the verdict on rules that are tested one by one
abbrev chosen : Bool → Bool → Bool → Rules → Result Rules Setting
chosen low high threshold rules = cond low (cond high (cond threshold (Ok rules) (Err setting.Channel)) (Err setting.High)) (Err setting.Low)

chosen-accepted : (low high threshold : Bool) (given rules : Rules) → chosen low high threshold given ≡ Ok rules → (low ≡ true) × (high ≡ true) × (threshold ≡ true) × (rules ≡ given)
chosen-accepted true true true given rules e = (refl, refl, refl, cc)
chosen-accepted true true false given rules e = cc
chosen-accepted true false threshold given rules e = cc
chosen-accepted false high threshold given rules e = cc

module _ (s : Settings) {rules : Rules} (e : judged_of s ≡ Ok rules) where
  tested : (leb (rules_of s).low 100 ≡ true) × (leb (rules_of s).high 100 ≡ true) × (threshold_accepted (rules_of s).threshold ≡ true) × (rules ≡ rules_of s)
  unfolding judged_of verdict_of
  tested = chosen-accepted (leb (rules_of s).low 100) (leb (rules_of s).high 100) (threshold_accepted (rules_of s).threshold) (rules_of s) rules e

  pub judged-passed : (settings_test s ≡ passed) × (rules ≡ rules_of s)
  unfolding settings_test
  judged-passed = (ap told e, tested.3)

-- ---- the test of the settings

pub judged-failed : (s : Settings) {bad : Setting} → judged_of s ≡ Err bad → settings_test s ≡ failed 4 (place_of bad)
unfolding settings_test
judged-failed s e = ap told e
