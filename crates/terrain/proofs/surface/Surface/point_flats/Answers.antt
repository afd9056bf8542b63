-- `terrain::surface::Surface::point_flats` meets its contract. Assumes nothing.
use Rattle.std.proofs.Common.{◌≡◌, ℕ, ◌*◌, ◌<◌, false, sym, ◌∙◌, arith, below_more}
use Rattle.terrain.specs.InnerFlats.{StepsKept}
use Rattle.terrain.specs.Direction.{nearer_at}
use Rattle.terrain.proofs.InnerPointing.{nearer-told, nearer-none, nearer-found, point-none, point-flat, point-kept, point-all, given-kept}
use Rattle.terrain.proofs.InnerWading.{steps-flat, flat-beside, flat-lands}
use Rattle.terrain.proofs.surface.Surface.point_flats.Goals.{then-steps-x-gt0, else-steps-x-gt0, then-loop-k-test+then-is_nearer, else-loop-k-test}
use Rattle.terrain.proofs.surface.Surface.point_flats.Goals as goal

pub loop-x-init : goal.loop-x-init
loop-x-init c = point-none c.requires.1

pub bounds-steps-x : goal.bounds-steps-x
bounds-steps-x c = omega (arith, c.loop-x.invariant.long, (given-kept c.args.self.levels c.requires.0).long)

pub beside-requires : goal.beside-requires
beside-requires c =
    let l = c.args.self.levels in
    flat-beside l c.loop-x.x c.loop-k.k (steps-flat l (given-kept l c.requires.0) c.loop-x.x c.if-steps-x-gt0.true) (omega arith)

pub is_nearer-requires : goal.is_nearer-requires
is_nearer-requires c =
    let l = c.args.self.levels in
    let kept = given-kept l c.requires.0 in
    let on = (flat-lands l c.loop-x.x c.loop-k.k (steps-flat l kept c.loop-x.x c.if-steps-x-gt0.true) (omega arith) c.beside.ensures).1 in
    (on, omega (arith, on, kept.long))

pub loop-k-preserved : goal.loop-k-preserved
loop-k-preserved c =
    let s = c.args.self in
    let st = c.args.steps.now in
    let x = c.loop-x.x in
    let flat = steps-flat s.levels (given-kept s.levels c.requires.0) x c.if-steps-x-gt0.true in
    below_more (λ (j : ℕ). nearer_at s.rows s.columns s.level.now st x j ≡ false) c.loop-k.k c.loop-k.invariant
    (sym (nearer-told s.rows s.columns s.level.now x st c.loop-k.k (flat-lands s.levels x c.loop-k.k flat (omega arith) c.beside.ensures).0 c.if-steps-x-gt0.true c.is_nearer.ensures) ∙ c.if-is_nearer.false)

pub loop-x-preserved : goal.loop-x-preserved
loop-x-preserved c =
    let s = c.args.self in
    let st = c.args.steps.now in
    let x = c.loop-x.x in
    let kept : StepsKept s.rows s.columns s.level.now st = given-kept s.levels c.requires.0 in
    let l : x < s.rows * s.columns = omega (arith, c.loop-x.invariant.long) in
    elim c.if-steps-x-gt0.branch [
      | then-steps-x-gt0 w ↦ point-flat c.loop-x.invariant kept l w.if-steps-x-gt0.true
          (elim w.loop-k-test.branch [
            | then-loop-k-test+then-is_nearer v ↦ (
                let flat = steps-flat s.levels kept x w.if-steps-x-gt0.true in
                v.direction-is ∙ v.code_of.ensures ∙ nearer-found s.rows s.columns s.level.now x st w.loop-k.k w.loop-k.invariant v.loop-k-test.true
                (sym (nearer-told s.rows s.columns s.level.now x st w.loop-k.k (flat-lands s.levels x w.loop-k.k flat v.loop-k-test.true v.beside.ensures).0 w.if-steps-x-gt0.true v.is_nearer.ensures) ∙ v.if-is_nearer.true))
            | else-loop-k-test v ↦ v.direction-is ∙ nearer-none s.rows s.columns s.level.now x st w.loop-k.k w.loop-k.invariant v.loop-k-test.false
          ])
          w.direction-is
      | else-steps-x-gt0 w ↦ point-kept c.loop-x.invariant kept l w.if-steps-x-gt0.false w.direction-is
    ]

pub returns : goal.returns
returns c =
    let s = c.args.self in
    let e : c.loop-x.x ≡ s.rows * s.columns = omega (arith, c.loop-x.invariant.long) in
    point-all c.requires.0 (rw e at c.loop-x.invariant)
