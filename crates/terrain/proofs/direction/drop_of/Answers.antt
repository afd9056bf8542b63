-- `terrain::direction::drop_of` meets its contract. Assumes nothing.
use Rattle.std.proofs.Common.{arith, le-ltb, lt-ltb}
use Rattle.terrain.specs.InnerLevels.{drop_of}
use Rattle.terrain.proofs.direction.drop_of.Goals as goal

pub returns-then-w-lt1 : goal.returns-then-w-lt1
unfolding drop_of
returns-then-w-lt1 c = simp (le-ltb 0 c.args.w (omega arith))

pub returns-then-v-w : goal.returns-then-v-w
unfolding drop_of
returns-then-v-w c = let a = c.args in simp (lt-ltb 0 a.w (omega arith), le-ltb a.w a.v c.if-v-w.true)

pub returns : goal.returns
unfolding drop_of
returns c = let a = c.args in simp (lt-ltb 0 a.w (omega arith), lt-ltb a.w a.v c.if-v-w.false)
