-- `terrain::given::judge` meets its contract. Assumes nothing.
use Rattle.std.proofs.Common.{refl}
use Rattle.terrain.proofs.InnerGiving.{below-some, below-past, told-broken, told-keeping, told-ring, told-sound}
use Rattle.terrain.proofs.given.judge.Goals as goal

pub returns-in-Some : goal.returns-in-Some
returns-in-Some c =
    let a = c.args in
    let x = below-some c.in-Some.ensures in
    (told-broken a.rows a.columns a.level.now a.direction.now x.0 x.1, refl)

pub first_on_ring-requires : goal.first_on_ring-requires
first_on_ring-requires c =
    let a = c.args in
    told-keeping a.rows a.columns a.level.now a.direction.now refl (below-past c.in_default.ensures) c.requires.0 c.requires.1

pub returns-in-Some-first_on_ring : goal.returns-in-Some-first_on_ring
returns-in-Some-first_on_ring c =
    let a = c.args in
    let x = below-some c.in-Some-first_on_ring.ensures.0 in
    (told-ring a.rows a.columns a.level.now a.direction.now refl (below-past c.in_default.ensures) x.0 x.1, c.first_on_ring.ensures.1)

pub returns : goal.returns
returns c =
    let a = c.args in
    (told-sound a.rows a.columns a.level.now a.direction.now refl (below-past c.in_default.ensures) refl (below-past c.in_default-first_on_ring.ensures.0), c.first_on_ring.ensures.1)
