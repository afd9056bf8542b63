-- Settings as numbers: none is lost on the way, and a kind that is no rule is not accepted. Assumes nothing.
use mathlib.Core.Path.{◌≡◌, refl, sym, ap, ◌∙◌}
use mathlib.Core.Bool.{false}
use Prim.Native.Nat.{ℕ, ◌≤◌, ◌<◌}
use native.Mathlib.Omega.{arith}
use borrow.Author.Tests.{ne_eqb}
use lib.Ieee.{Float}
use Rattle.settings.specs.Settings.{whole_of, threshold_of, threshold_accepted, judged_of}
use Rattle.settings.specs.declared.Channel.{Channel}
use Rattle.settings.specs.declared.Channel.TheVariants.{Percentage, Cells, NoChannel}
use Rattle.settings.specs.declared.Formula.{Formula}
use Rattle.settings.specs.declared.Formula.TheVariants.{Older, Newer}
use Rattle.settings.specs.declared.Settings.{Settings}
use Rattle.std.specs.Prelude.{Err}
use Rattle.settings.specs.declared.Setting.TheVariants as setting
use Rattle.settings.proofs.Cutoffs.{judged-channel}
use Rattle.fullsize.specs.Crossing.{Numbers, no_rule, channel_of, formula_of, settings_of, numbers_with, formula_number, numbers_of}

-- the settings of numbers that were handed out
abbrev pub back : Numbers → Settings
back n = settings_of n.low n.high n.kind n.cells n.percentage n.formula

back-with : (low high : Float) (n : ℕ) (rule : Channel) → back (numbers_with low high n rule) ≡ record { low = low; high = high; channel = rule; formula = formula_of n }
unfolding numbers_with settings_of channel_of
back-with low high n NoChannel = refl
back-with low high n (Cells cells) = refl
back-with low high n (Percentage x) = refl

back-formula : (formula : Formula) → formula_of (formula_number formula) ≡ formula
unfolding formula_of formula_number
back-formula Older = refl
back-formula Newer = refl

pub back-numbers : (s : Settings) → back (numbers_of s) ≡ s
unfolding numbers_of
back-numbers s =
    back-with s.low s.high (formula_number s.formula) s.channel
    ∙ ap (λ (f : Formula). record { low = s.low; high = s.high; channel = s.channel; formula = f }) (back-formula s.formula)

-- 101 percent is not accepted
no-rule : threshold_accepted (threshold_of no_rule) ≡ false
unfolding threshold_accepted threshold_of no_rule
no-rule = refl

other-rule : (kind cells : ℕ) (percentage : Float) → 2 < kind → channel_of kind cells percentage ≡ no_rule
unfolding channel_of
other-rule kind cells percentage h = rw (ne_eqb kind 0 (λ e. omega arith), ne_eqb kind 1 (λ e. omega arith), ne_eqb kind 2 (λ e. omega arith))

-- beside accepted cutoffs, any other kind is what is wrong: the third setting
pub other-refused : (low high : Float) (kind cells : ℕ) (percentage : Float) (formula : ℕ) → whole_of 100 100 low ≤ 100 → whole_of 100 100 high ≤ 100 →
    2 < kind → judged_of (settings_of low high kind cells percentage formula) ≡ Err setting.Channel
unfolding settings_of
other-refused low high kind cells percentage formula l h k =
    sym (judged-channel (settings_of low high kind cells percentage formula) (refl, l) refl h (threshold_of no_rule)
    (sym (ap threshold_of (other-rule kind cells percentage k))) no-rule)
