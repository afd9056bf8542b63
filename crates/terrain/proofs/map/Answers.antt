-- `terrain::map` meets its contract. Assumes nothing.
use Rattle.std.proofs.Common.{Err, sym, refl, ap, ◌∙◌, subst}
use Rattle.std.proofs.lemmas.Result.{err_from_is_err_and}
use Rattle.terrain.specs.InnerTrail.{Directed}
use Rattle.terrain.specs.Answers.{lent}
use Rattle.terrain.proofs.Answers.{passed-ready, passed-room, sound, refused-is, refuses, refuses-later, accepts-all}
use Rattle.terrain.proofs.InnerSurveying.{relief-levels, relief-small, directions-for, given-keeping, relief-filled, relief-falls, routed-answer, routed-mapped}
use Rattle.terrain.proofs.map.Goals as goal

pub returns-in_err-judge : goal.returns-in_err-judge
returns-in_err-judge c =
    let a = c.args in
    let g = lent a.filled.now a.direction.now a.count.now a.falls.now a.workspace.now in
    let p = err_from_is_err_and c.from_residual.result c.from_residual.ensures.1 in
    let all = refuses a.rows a.columns a.source a.elevation.now g c.in_err-judge.ensures (p.1 ∙ ap Err p.2 ∙ refused-is a.rows a.columns a.source a.elevation.now g c.in_err-judge.field-0.0) in
    record { answers = all.0; leaves = all.1.0; drains = all.1.1 }

pub survey-requires : goal.survey-requires
survey-requires c =
    let a = c.args in
    let g = lent a.filled.now a.direction.now a.count.now a.falls.now a.workspace.now in
    let room = passed-room a.rows a.columns a.elevation.now g (sym c.in_ok-judge.ensures) in
    (passed-ready a.rows a.columns a.elevation.now g (sym c.in_ok-judge.ensures), room.direction-long, room.workspace-long)

pub returns-in-Err : goal.returns-in-Err
returns-in-Err c =
    let a = c.args in
    let g = lent a.filled.now a.direction.now a.count.now a.falls.now a.workspace.now in
    let all = refuses-later a.rows a.columns a.source a.elevation.now g (sym c.in_ok-judge.ensures) c.in-Err.ensures.0 refl c.in-Err.ensures.1 (c.fill.ensures.after (λ y e. e)) (refused-is a.rows a.columns a.source a.elevation.now g c.in-Err.refusal) in
    record { answers = all.0; leaves = all.1.0; drains = all.1.1 }

pub invariant_of-surface : goal.invariant_of-surface
invariant_of-surface c =
    let a = c.args in
    let g = lent a.filled.now a.direction.now a.count.now a.falls.now a.workspace.now in
    let s = sound a.rows a.columns a.source a.elevation.now g c.in_ok-judge.ensures c.in_default.ensures.0 c.in_default.ensures.1 in
    record { levels = relief-levels s.ready s.levels }

pub shape-requires : goal.shape-requires
shape-requires c =
    let a = c.args in
    let g = lent a.filled.now a.direction.now a.count.now a.falls.now a.workspace.now in
    let s = sound a.rows a.columns a.source a.elevation.now g c.in_ok-judge.ensures c.in_default.ensures.0 c.in_default.ensures.1 in (
      relief-small s.ready s.levels,
      s.room.filled-long,
      s.room.direction-long,
      s.room.count_long,
      s.room.falls-long,
      given-keeping s.ready a.source a.direction.now s.levels s.chosen.keeping,
    )

pub route-requires : goal.route-requires
route-requires c =
    let a = c.args in
    let g = lent a.filled.now a.direction.now a.count.now a.falls.now a.workspace.now in
    let s = sound a.rows a.columns a.source a.elevation.now g c.in_ok-judge.ensures c.in_default.ensures.0 c.in_default.ensures.1 in
    let directed = c.shape.ensures.1 ∙ directions-for s.ready a.source a.direction.now s.levels in (
      subst (Directed a.rows a.columns) (sym directed) s.chosen.directed,
      c.shape.auto.count ∙ s.room.count_long,
      (relief-levels s.ready s.levels).long,
    )

pub returns : goal.returns
returns c =
    let a = c.args in
    let g = lent a.filled.now a.direction.now a.count.now a.falls.now a.workspace.now in
    let s = sound a.rows a.columns a.source a.elevation.now g c.in_ok-judge.ensures c.in_default.ensures.0 c.in_default.ensures.1 in
    let directed = c.shape.ensures.1 ∙ directions-for s.ready a.source a.direction.now s.levels in
    let f = relief-filled s.ready s.levels c.shape.ensures.0 in
    let w = relief-falls s.ready a.source a.direction.now s.levels c.shape.ensures.2 in
    let all = accepts-all a.rows a.columns a.source a.elevation.now g (sym c.in_ok-judge.ensures) c.in_default.ensures.0 (routed-answer s.ready s.chosen.keeping f directed w c.route.ensures) (routed-mapped s.ready s.chosen.keeping f directed w c.route.ensures) in
    record { answers = all.0; leaves = all.1.0; drains = all.1.1 }
