-- `terrain::filled::write_heights` meets its contract. Assumes nothing.
use Rattle.std.proofs.Common.{pos, arith}
use Rattle.laws.proofs.Lists.{agrees-map}
use Rattle.terrain.specs.Cells.{height_of}
use Rattle.terrain.proofs.filled.write_heights.Goals as goal

pub returns : goal.returns
returns c =
    let s = c.args in
    agrees-map height_of s.level.now c.loop-x.filled 0 (pos 0) (omega arith) (λ j h. c.loop-x.invariant j (omega arith))
