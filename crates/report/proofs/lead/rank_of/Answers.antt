-- `report::lead::rank_of` meets its contract. Assumes nothing.
use mathlib.Core.Path.{sym}
use native.Mathlib.Omega.{arith}
use Rattle.report.proofs.InnerCells.{rank-known, rank-none}
use Rattle.report.proofs.lead.rank_of.Goals as goal

pub returns-then-v-lt-TOO_LONG : goal.returns-then-v-lt-TOO_LONG
returns-then-v-lt-TOO_LONG c = sym (rank-known c.args.v c.if-v-lt-TOO_LONG.true)

pub returns-else-v-lt-TOO_LONG : goal.returns-else-v-lt-TOO_LONG
returns-else-v-lt-TOO_LONG c = sym (rank-none c.args.v c.if-v-lt-TOO_LONG.false (omega arith))
