-- `terrain::ring::take` meets its contract. Assumes nothing.
use Rattle.std.proofs.Common.{◌*◌, ◌<◌, ◌≤◌, arith}
use Rattle.terrain.proofs.InnerRinging.{marked-same, next-same, search-last, search-next-waits, search-next}
use Rattle.terrain.proofs.ring.take.Goals as goal

pub returns-then-words-y : goal.returns-then-words-y
returns-then-words-y c =
    let same = marked-same c.requires.0 c.requires.1 in
    let past : c.args.drawing.rows * c.args.drawing.columns ≤ c.receiver-y.result = omega (arith, c.if-words-y.true, same.long, c.requires.0.noted.long) in
    ((λ b hand i o. search-last i c.requires.1 c.receiver-y.ensures past o), same)

pub overflow_sub-words : goal.overflow_sub-words
overflow_sub-words c =
    search-next-waits c.requires.0 c.requires.1 c.receiver-y.ensures (omega (arith, c.if-words-y.false, (marked-same c.requires.0 c.requires.1).long, c.requires.0.noted.long))

pub returns : goal.returns
returns c =
    let on : c.receiver-y.result < c.args.drawing.rows * c.args.drawing.columns = omega (arith, c.if-words-y.false, (marked-same c.requires.0 c.requires.1).long, c.requires.0.noted.long) in
    ((λ b hand i o. search-next i c.requires.1 c.receiver-y.ensures on o), next-same c.requires.0 c.requires.1 c.receiver-y.ensures on)
