-- `terrain::surface::Surface::fall_at` meets its contract. Assumes nothing.
use Rattle.std.proofs.Common.{◌≡◌, max, refl, ap, ◌∙◌, arith}
use Rattle.terrain.proofs.InnerKeys.{keys_none, keys-more, keys-small, keys-fall}
use Rattle.terrain.proofs.surface.Surface.fall_at.Goals as goal

pub loop-i-init : goal.loop-i-init
loop-i-init g c = keys_none refl refl

pub loop-i-preserved : goal.loop-i-preserved
loop-i-preserved g c =
    keys-more c.loop-i.invariant (c.max-cardinal.ensures ∙ ap (max c.loop-i.cardinal) c.key_at.ensures) (c.max-diagonal.ensures ∙ ap (max c.loop-i.diagonal) c.key_at-in-loop-i.ensures)

pub chosen-requires : goal.chosen-requires
chosen-requires g c = keys-small (c.args.self.levels.capped c.args.x) c.loop-i.invariant

pub returns : goal.returns
returns g c =
    let e : c.loop-i.i ≡ 4 = omega arith in
    keys-fall e c.loop-i.invariant c.chosen.ensures c.at.ensures
