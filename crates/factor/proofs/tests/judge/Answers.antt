-- `factor::tests::judge` meets its contract. Assumes nothing.
use Rattle.factor.proofs.Judging.{one-judged}
use Rattle.factor.proofs.tests.judge.Goals as goal

pub returns : goal.returns
returns c = one-judged _ _ _ _ _ _ c.judge_ground.result c.judge_ground.ensures
