-- `terrain::filled::restart` meets its contract. Assumes nothing.
use Rattle.terrain.proofs.Neighbours.{level-top}
use Rattle.terrain.specs.Filled.{top}
use Rattle.terrain.specs.Cells.{levels_of, valid_at}
use Rattle.laws.proofs.Lists.{agrees-tab}
use Rattle.std.proofs.Common.{ℕ, ◌*◌, cond, ◌∙◌, arith}
use Rattle.terrain.proofs.filled.restart.Goals as goal

pub start_word-requires : goal.start_word-requires
start_word-requires c = omega (arith, c.level_at.ensures, level-top c.args.ground.ready c.loop-x.x)

pub returns : goal.returns
returns c = agrees-tab (λ (i : ℕ). cond (valid_at (levels_of c.args.ground.elevation.now) i) top 0) 0 c.loop-x.level (c.args.ground.rows * c.args.ground.columns) (c.loop-x.auto.level ∙ c.requires) (λ j h. c.loop-x.invariant j (omega arith))
