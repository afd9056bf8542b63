-- `terrain::surface::Surface::measure` meets its contract. Assumes nothing.
use Rattle.std.proofs.Common.{arith}
use Rattle.terrain.proofs.Flats.{steps-are}
use Rattle.terrain.proofs.surface.Surface.measure.Goals as goal

pub returns-else-queue-entries : goal.returns-else-queue-entries
returns-else-queue-entries c =
    let s = c.args.self in
    let waded = c.wade-entries.ensures in
    steps-are s.rows s.columns s.level.now s.levels.long _ waded.kept (waded.still (omega (arith, c.wade-entries.auto.queue)))
