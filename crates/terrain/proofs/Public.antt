-- What the layers above may cite of this one, besides its promise, its definitions and the laws for the reader (Reading, Accepting): no other file of proofs/ is open to them. Assumes nothing.

-- where a neighbour lies
pub use Rattle.terrain.proofs.InnerInterior.{shift-few, beside-room, beside-is}
-- an accepted call: its ground, its filled levels and the directions of its map
pub use Rattle.terrain.proofs.Answers.{accepted-ready, accepted-directed}
pub use Rattle.terrain.proofs.Filling.{filled-small}
-- any directions along which every trail ends: valid cells, the cells that they point at, and inflows
pub use Rattle.terrain.proofs.Trails.{mapped-is, steps-le, counts-long}
pub use Rattle.terrain.proofs.Receivers.{pointing, code_read, receiver-leaves, receiver-beside, receiver-bearing, receiver-near}
pub use Rattle.terrain.proofs.Inflows.{into-above, inflow-greatest}
-- an order from the ridges down
pub use Rattle.terrain.proofs.InnerDescending.{place-cell, downhill-few, downhill-taken}
-- our own directions, given back
pub use Rattle.terrain.proofs.Owning.{own-accepted}
