-- `terrain::ring::first_on_ring` meets its contract. Assumes nothing.
use Rattle.std.proofs.Common.{◌∙◌, arith}
use Rattle.terrain.proofs.InnerRinging.{same_then, left-first, levels-again}
use Rattle.terrain.proofs.ring.first_on_ring.Goals as goal

pub returns : goal.returns
returns c = (
  left-first (omega arith) c.peel.ensures.0.1 c.first_left-found.ensures,
  c.restore.ensures ∙ levels-again (same_then c.await_all.ensures.1 c.peel.ensures.1) (λ z. omega (arith, c.requires.levels.capped z)),
)
