-- `terrain::filled::start` meets its contract. Assumes nothing.
use Rattle.terrain.proofs.InnerWords.{done-long, done-set}
use Rattle.terrain.proofs.Neighbours.{level-top}
use Rattle.terrain.specs.InnerFlood.{done_of}
use Rattle.terrain.proofs.InnerQueueing.{unqueued-more, unqueued-all}
use Rattle.terrain.specs.Filled.{top}
use Rattle.terrain.specs.Cells.{levels_of, valid_at}
use Rattle.laws.proofs.Lists.{agrees-more, agrees-tab}
use Rattle.std.proofs.Common.{ℕ, ◌*◌, cond, ◌∙◌, arith}
use Rattle.terrain.proofs.filled.start.Goals as goal

pub start_word-requires : goal.start_word-requires
start_word-requires c = omega (arith, c.level_at.ensures, level-top c.args.ground.ready c.loop-x.x)

pub loop-x-preserved : goal.loop-x-preserved
loop-x-preserved c =
    let s = c.args in
    (rw (done-set c.loop-x.words c.loop-x.x c.start_word.result) (agrees-more (λ (i : ℕ). cond (valid_at (levels_of s.ground.elevation.now) i) top 0) 0 (done_of c.loop-x.words) c.loop-x.x _ (omega (arith, done-long c.loop-x.words)) c.loop-x.invariant.0 (cc)), unqueued-more c.loop-x.words c.loop-x.x c.start_word.result (omega arith) c.start_word.ensures.1 c.loop-x.invariant.1)

pub returns : goal.returns
returns c = (
  agrees-tab (λ (i : ℕ). cond (valid_at (levels_of c.args.ground.elevation.now) i) top 0) 0 (done_of c.loop-x.words) (c.args.ground.rows * c.args.ground.columns) (done-long c.loop-x.words ∙ c.loop-x.auto.words ∙ c.requires) (λ j h. c.loop-x.invariant.0 j (omega arith)),
  unqueued-all c.loop-x.words c.loop-x.x (omega arith) c.loop-x.invariant.1,
)
