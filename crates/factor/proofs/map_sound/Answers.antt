-- `factor::map_sound` meets its contract. Assumes nothing.
use mathlib.Core.Path.{refl, ap, ◌∙◌}
use Prim.Native.Nat.{ℕ}
use lib.ListN.{replicate}
use Rattle.std.proofs.lemmas.Result.{err_from_is_err_and}
use Rattle.terrain.specs.Answers as terrain
use Rattle.terrain.specs.Filled.{filled_levels}
use Rattle.factor.specs.Answers.{lent}
use Rattle.factor.proofs.Judging.{first-workspace}
use Rattle.factor.proofs.Answers.{terrain-refused, accepted-room, accepted-measuring, accepted-promised}
use Rattle.factor.proofs.map_sound.Goals as goal

pub returns-in_err-summary : goal.returns-in_err-summary
returns-in_err-summary c =
    let a = c.args in
    let p = err_from_is_err_and c.from_residual.result c.from_residual.ensures.1 in
    λ farms h.
    rw (p.1, p.2) (terrain-refused a.rows a.columns a.side farms a.source a.elevation.now (lent a.filled.now a.direction.now a.count.now a.lengths.now a.factors.now a.workspace.now) h.passes
    c.in_err-summary.field-0.0 c.in_err-summary.ensures.answers c.in_err-summary.ensures.leaves)

pub slice_bounds-order-end : goal.slice_bounds-order-end
slice_bounds-order-end c =
    let a = c.args in
    let r = accepted-room a.rows a.columns a.side c.requires.0.0 a.source a.elevation.now (lent a.filled.now a.direction.now a.count.now a.lengths.now a.factors.now a.workspace.now) c.requires.0.1.passes (terrain.lent c.map.new.filled c.map.new.direction c.map.new.count c.map.new.falls c.map.new.workspace)
    c.in_ok-summary.ensures.answers c.in_ok-summary.ensures.leaves in
    r.0

pub slice_bounds-order-end-2 : goal.slice_bounds-order-end-2
slice_bounds-order-end-2 c =
    let a = c.args in
    let r = accepted-room a.rows a.columns a.side c.requires.0.0 a.source a.elevation.now (lent a.filled.now a.direction.now a.count.now a.lengths.now a.factors.now a.workspace.now) c.requires.0.1.passes (terrain.lent c.map.new.filled c.map.new.direction c.map.new.count c.map.new.falls c.map.new.workspace)
    c.in_ok-summary.ensures.answers c.in_ok-summary.ensures.leaves in
    r.1

pub measure-requires : goal.measure-requires
measure-requires c =
    let a = c.args in
    let farms = c.requires.0.0 in (
      a.rows,
      filled_levels a.rows a.columns a.elevation.now,
      accepted-measuring a.rows a.columns a.side farms a.source a.elevation.now (lent a.filled.now a.direction.now a.count.now a.lengths.now a.factors.now a.workspace.now) c.requires.0.1.passes (terrain.lent c.map.new.filled c.map.new.direction c.map.new.count c.map.new.falls c.map.new.workspace)
          c.in_ok-summary.ensures.answers c.in_ok-summary.ensures.leaves,
      c.requires.1,
    )

pub returns : goal.returns
returns c =
    λ farms h.
    let a = c.args in
    let lv = filled_levels a.rows a.columns a.elevation.now in
    let n = accepted-measuring a.rows a.columns a.side farms a.source a.elevation.now (lent a.filled.now a.direction.now a.count.now a.lengths.now a.factors.now a.workspace.now) h.passes (terrain.lent c.map.new.filled c.map.new.direction c.map.new.count c.map.new.falls c.map.new.workspace)
    c.in_ok-summary.ensures.answers c.in_ok-summary.ensures.leaves in
    let long = c.map.auto.workspace ∙ first-workspace a.rows a.columns a.side farms a.elevation.now (lent a.filled.now a.direction.now a.count.now a.lengths.now a.factors.now a.workspace.now) h.passes in
    accepted-promised a.rows a.columns a.side farms a.source a.elevation.now (lent a.filled.now a.direction.now a.count.now a.lengths.now a.factors.now a.workspace.now) h.passes (terrain.lent c.map.new.filled c.map.new.direction c.map.new.count c.map.new.falls c.map.new.workspace)
    c.in_ok-summary.ensures.answers c.in_ok-summary.ensures.leaves h.rules-are (c.measure.ensures a.rows lv n c.requires.1)
    (c.fill.ensures.after (λ y e. e) ∙ ap (λ (i : ℕ). replicate i 0) long) (c.in_ok-summary.ensures.drains refl)
