-- `terrain::surface::Surface::point` meets its contract. Assumes nothing.
use Rattle.std.proofs.Common.{◌∙◌}
use Rattle.terrain.proofs.InnerPointing.{down-codes, down-falls, down-starts}
use Rattle.terrain.proofs.Dropping.{falls-written}
use Rattle.terrain.proofs.surface.Surface.point.Goals as goal

pub measure-requires : goal.measure-requires
measure-requires c = down-starts (c.point_down.auto.steps ∙ c.requires.2) c.point_down.ensures

pub point_flats-requires : goal.point_flats-requires
point_flats-requires c = (c.measure.ensures, down-codes (c.point_down.auto.direction ∙ c.requires.0) c.point_down.ensures)

pub returns : goal.returns
returns c = let s = c.args.self in (c.point_flats.ensures, down-falls (c.point_down.auto.falls ∙ c.requires.1) c.point_down.ensures ∙ falls-written s.rows s.columns s.level.now)
