-- `terrain::ground::Ground::level_at` meets its contract. Assumes nothing.
use Rattle.std.proofs.Common.{get_or, pos, nat_abs, sym, ap, ◌∙◌}
use Rattle.terrain.proofs.Neighbours.{level-read}
use Rattle.terrain.proofs.InnerFlooding.{level-word}
use Rattle.terrain.proofs.ground.Ground.level_at.Goals as goal

pub returns : goal.returns
returns c = ap nat_abs (level-word (get_or c.args.self.elevation.now c.args.x (pos 0)) (c.args.self.ready.fine c.args.x c.requires)) ∙ sym (level-read c.args.self.elevation.now c.args.x c.requires)
