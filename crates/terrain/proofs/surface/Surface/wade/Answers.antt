-- `terrain::surface::Surface::wade` meets its contract. Assumes nothing.
use Rattle.std.proofs.Common.{ap, ◌∙◌, unsigned_abs, arith}
use Rattle.terrain.proofs.InnerStepping.{cell-is}
use Rattle.terrain.proofs.InnerWading.{wading-take, waded}
use Rattle.terrain.proofs.surface.Surface.wade.Goals.{in-Ok, in_default}
use Rattle.terrain.proofs.surface.Surface.wade.Goals as goal

pub spread-end-requires : goal.spread-end-requires
spread-end-requires c = (_, wading-take c.args.self.levels c.loop-at.invariant.1 c.loop-at-test.true (λ z h e. c.in-Ok.ensures.1 ∙ ap unsigned_abs (cell-is _ z h e)))

pub loop-at-preserved : goal.loop-at-preserved
loop-at-preserved c =
    let l = c.args.self.levels in
    let t = c.loop-at.invariant in
    elim c.match-try_from.branch [
      | in-Ok w ↦ rw (w.steps-is, w.queue-is, w.end-is) (
        w.spread-end.auto.queue ∙ t.0,
        w.spread-end.ensures _ (wading-take l t.1 c.loop-at-test.true (λ z h e. w.in-Ok.ensures.1 ∙ ap unsigned_abs (cell-is _ z h e))),
      )
      | in_default w ↦ rw (w.steps-is, w.queue-is, w.end-is) (
        t.0,
        wading-take l t.1 c.loop-at-test.true (λ z h e. absurd (w.in_default.ensures (rw (cell-is _ z h e) (omega arith)))),
      )
    ]

pub returns : goal.returns
returns c = waded c.args.self.levels c.loop-at.invariant.1 (omega arith) c.loop-at.invariant.0
