-- `terrain::route` meets its contract. Assumes nothing.
use Rattle.std.proofs.Common.{◌∙◌}
use Rattle.terrain.proofs.InnerDescending.{downhill-taken}
use Rattle.terrain.proofs.route.Goals as goal

pub longest_trail-longest-requires : goal.longest_trail-longest-requires
longest_trail-longest-requires c = (c.requires.0, downhill-taken c.descend-places.ensures, c.descend-places.auto.waiting ∙ c.requires.1)

pub count_flow-requires : goal.count_flow-requires
count_flow-requires c = (c.requires.0, downhill-taken c.descend-places.ensures, c.longest_trail-longest.auto.workspace ∙ c.descend-places.auto.waiting ∙ c.requires.1)
