-- `terrain::surface::Surface::spread` meets its contract. Assumes nothing.
use Rattle.std.proofs.Common.{ℕ, ◌+◌, ap, arith}
use Rattle.terrain.proofs.InnerWading.{spreading-none}
use Rattle.terrain.proofs.surface.Surface.spread.Goals as goal

pub returns : goal.returns
returns c = λ from w. c.reach_around.ensures from (spreading-none c.args.self.levels w (omega (arith, c.value_at-own.ensures)) (ap (λ (n : ℕ). n + 1) c.value_at-own.ensures))
