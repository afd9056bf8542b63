-- `terrain::cells::around` meets its contract. Assumes nothing.
use Rattle.std.proofs.Common.{◌+◌, ◌^◌, mod-eq_of_lt, arith}
use Rattle.terrain.proofs.InnerInterior.{placed_at}
use Rattle.terrain.specs.InnerCells.{beside_of}
use Rattle.terrain.proofs.cells.around.Goals as goal

pub returns : goal.returns
unfolding beside_of
returns c =
    λ h.
    let p = placed_at c.requires.0 c.requires.2 c.place_of-place.result c.place_of-place.ensures in
    let sum = mod-eq_of_lt {n = c.wrapping_sub_usize.result + (c.args.columns + 1)} {m = 2 ^ 64} (omega (arith, c.requires.0)) in
    record {
      bearing = c.args.k;
      room = record { cols-small = c.requires.0; cell-small = c.requires.1; bearing-small = c.requires.2; room = omega (arith, sum, c.wrapping_sub_usize.ensures, p.down, p.right) };
      is = omega (arith, sum, c.wrapping_sub_usize.ensures, p.down, p.right);
    }
