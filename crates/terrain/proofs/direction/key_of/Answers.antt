-- `terrain::direction::key_of` meets its contract. Assumes nothing.
use Rattle.std.proofs.Common.{arith}
use Rattle.terrain.proofs.InnerKeys.{drop-small}
use Rattle.terrain.proofs.direction.key_of.Goals as goal

pub overflow_mul-result : goal.overflow_mul-result
overflow_mul-result c = let a = c.args in omega (arith, drop-small a.v a.w)

pub overflow_add-result : goal.overflow_add-result
overflow_add-result c = let a = c.args in omega (arith, drop-small a.v a.w)
