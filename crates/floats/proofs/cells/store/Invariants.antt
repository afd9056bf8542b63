-- What the loop of `floats::cells::store` keeps. Assumes nothing.
use lib.IntN.{pos}
use Rattle.laws.specs.Lists.{Agrees}
use Rattle.floats.specs.Floats.{bits_at}
use Rattle.floats.specs.Answers.{height_of}
use Rattle.floats.proofs.cells.store.Given as goal

abbrev pub invariant-loop-x : goal.invariant-loop-x
invariant-loop-x l = Agrees (λ y. height_of l.v (bits_at l.floats y)) (pos 0) l.out l.x
