-- `terrain::ring::follow` meets its contract. Assumes nothing.
use Rattle.std.proofs.Common.{◌+◌, ◌*◌, refl, arith}
use Rattle.terrain.proofs.InnerRinging.{same_then, search-room}
use Rattle.terrain.proofs.ring.follow.Goals as goal

pub overflow_add-at : goal.overflow_add-at
overflow_add-at c = omega (arith, search-room c.loop-place.invariant.0 c.loop-place.invariant.2, c.loop-place.invariant.0.keeps.drawn.sized.small)

pub returns-then-start-y : goal.returns-then-start-y
returns-then-start-y c = (
  c.take-y.ensures.0 (c.args.start + 1) (c.args.drawing.rows * c.args.drawing.columns) c.loop-place.invariant.0 (record { some = (λ h. absurd (omega arith)); none = (λ l z. absurd (omega (arith, c.if-start-y.true))) }),
  same_then c.loop-place.invariant.1 c.take-y.ensures.1,
)

pub returns-then-words-y-ge-WAIT : goal.returns-then-words-y-ge-WAIT
returns-then-words-y-ge-WAIT c = (
  c.take-y.ensures.0 (c.args.start + 1) (c.args.drawing.rows * c.args.drawing.columns) c.loop-place.invariant.0 (record { some = (λ h. absurd (omega arith)); none = (λ l z. absurd (omega (arith, c.if-words-y-ge-WAIT.true))) }),
  same_then c.loop-place.invariant.1 c.take-y.ensures.1,
)

pub loop-place-smaller : goal.loop-place-smaller
loop-place-smaller c = omega (arith, search-room c.loop-place.invariant.0 c.loop-place.invariant.2)

pub loop-place-preserved : goal.loop-place-preserved
loop-place-preserved c = (
  c.take-y.ensures.0 (c.args.start + 1) c.take-y.result c.loop-place.invariant.0 (record { some = (λ h. (refl, omega (arith, c.if-words-y-ge-WAIT.false))); none = (λ l z. refl) }),
  same_then c.loop-place.invariant.1 c.take-y.ensures.1,
  omega (arith, c.if-start-y.false, c.requires.1),
)
