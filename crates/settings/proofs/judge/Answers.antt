-- `settings::judge` meets its contract. Assumes nothing.
use mathlib.Core.Path.{◌≡◌, refl}
use mathlib.Core.Bool.{true, false}
use Rattle.std.proofs.Common.{Ok, Err}
use Rattle.std.proofs.lemmas.Result.{err_from_is_err_and}
use Rattle.settings.specs.declared.Setting.TheVariants as setting
use Rattle.settings.specs.declared.Threshold.{Threshold}
use Rattle.settings.specs.Settings.{threshold_of, threshold_accepted, judged_of}
use Rattle.settings.proofs.Cutoffs.{whole-none, whole-some, refused-is, threshold-share, threshold-over, threshold-never, share-accepted, over-accepted, never-accepted, share-refused, judged-low, judged-high, judged-channel, judged-rules}
use Rattle.settings.proofs.judge.Goals.{In_ok-high}
use Rattle.settings.proofs.judge.Goals as goal

-- after both cutoffs the channel rule decides
decided : (c : In_ok-high) (t : Threshold) → t ≡ threshold_of c.args.s.channel →
    (threshold_accepted t ≡ false → Err setting.Channel ≡ judged_of c.args.s)
    × (threshold_accepted t ≡ true → Ok (record { low = c.in_ok-low.low; high = c.in_ok-high.high; threshold = t; formula = c.args.s.formula }) ≡ judged_of c.args.s)
decided c t e =
    let low = whole-some c.whole_of.ensures c.in_ok-low.ensures.ok_part in
    let high = whole-some c.whole_of-2.ensures c.in_ok-high.ensures.ok_part in
    (judged-channel c.args.s low high.0 high.1 t e, judged-rules c.args.s low high.0 high.1 t e)

pub returns-in_err-low : goal.returns-in_err-low
returns-in_err-low c =
    let p = err_from_is_err_and c.from_residual.result c.from_residual.ensures.1 in
    rw (p.1, p.2, refused-is c.in_err-low.ensures.ok_part c.in_err-low.ensures.value)
    (judged-low c.args.s refl (whole-none c.whole_of.ensures c.in_err-low.ensures.ok_part))

pub returns-in_err-high : goal.returns-in_err-high
returns-in_err-high c =
    let p = err_from_is_err_and c.from_residual-in_err-high.result c.from_residual-in_err-high.ensures.1 in
    rw (p.1, p.2, refused-is c.in_err-high.ensures.ok_part c.in_err-high.ensures.value)
    (judged-high c.args.s (whole-some c.whole_of.ensures c.in_ok-low.ensures.ok_part) refl (whole-none c.whole_of-2.ensures c.in_err-high.ensures.ok_part))

pub returns-in_err-ok_or-in-Percentage : goal.returns-in_err-ok_or-in-Percentage
returns-in_err-ok_or-in-Percentage c =
    let p = err_from_is_err_and c.from_residual-in_err-ok_or-in-Percentage.result c.from_residual-in_err-ok_or-in-Percentage.ensures.1 in
    rw (p.1, p.2, refused-is c.in_err-ok_or-in-Percentage.ensures.ok_part c.in_err-ok_or-in-Percentage.ensures.value)
    ((decided (goal.at.returns-in_err-ok_or-in-Percentage c).In_ok-high _ (threshold-share c.in-Percentage.is refl)).0
    (share-refused _ (whole-none c.whole_of-in-Percentage.ensures c.in_err-ok_or-in-Percentage.ensures.ok_part)))

pub returns-in_ok-ok_or-in-Percentage : goal.returns-in_ok-ok_or-in-Percentage
returns-in_ok-ok_or-in-Percentage c =
    let share = whole-some c.whole_of-in-Percentage.ensures c.in_ok-ok_or-in-Percentage.ensures.ok_part in
    (decided (goal.at.returns-in_ok-ok_or-in-Percentage c).In_ok-high _ (threshold-share c.in-Percentage.is share.0)).1 (share-accepted _ share.1)

pub returns-in-Cells : goal.returns-in-Cells
returns-in-Cells c = (decided (goal.at.returns-in-Cells c).In_ok-high _ (threshold-over c.in-Cells.is)).1 (over-accepted _)

pub returns-in-NoChannel : goal.returns-in-NoChannel
returns-in-NoChannel c = (decided (goal.at.returns-in-NoChannel c).In_ok-high _ (threshold-never c.in-NoChannel.is)).1 never-accepted
