-- `factor::map` meets its contract. Assumes nothing.
use Prim.Native.Nat.{◌*◌}
use Rattle.std.proofs.lemmas.Result.{err_from_is_err_and}
use Rattle.factor.specs.Farms.{one}
use Rattle.factor.specs.Answers.{lent}
use Rattle.factor.proofs.Answers.{one-passing, one-naming, first-refuses}
use Rattle.factor.proofs.map.Goals as goal

pub returns-in_err-rules : goal.returns-in_err-rules
returns-in_err-rules c =
    let a = c.args in
    let p = err_from_is_err_and c.from_residual.result c.from_residual.ensures.1 in
    let all = first-refuses a.rows a.columns a.side (one a.settings) a.source a.elevation.now (lent a.filled.now a.direction.now a.count.now a.lengths.now a.factors.now a.workspace.now)
    c.in_err-rules.field-0.0 c.in_err-rules.ensures.verdict-is in
    rw (p.1, p.2) (record { answers = all.0; leaves = all.1.0; trails = all.1.1.0; totals = all.1.1.1.0; surface = all.1.1.1.1 })

pub map_sound-requires : goal.map_sound-requires
map_sound-requires c =
    let a = c.args in ((one a.settings, one-passing c.in_ok-rules.ensures), one-naming (a.rows * a.columns))

pub returns : goal.returns
returns c =
    let all = c.map_sound.ensures (one c.args.settings) (one-passing c.in_ok-rules.ensures) in
    record { answers = all.0; leaves = all.1.0; trails = all.1.1.0; totals = all.1.1.1.0; surface = all.1.1.1.1 }
