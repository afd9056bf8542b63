-- What the loop of `terrain::ring::restore` keeps. Assumes nothing.
use Rattle.std.proofs.Common.{◌≡◌, ℕ, ◌%◌, ◌≤◌, length, get_or}
use Rattle.laws.specs.Lists.{Agrees}
use Rattle.terrain.proofs.ring.restore.Given as goal

abbrev pub invariant-loop-word : goal.invariant-loop-word
invariant-loop-word l = (length l.words ≡ length l.initial.words) × Agrees (λ (i : ℕ). get_or l.initial.words i 0 % 2097152) 0 l.words l.word-index × ((i : ℕ) → l.word-index ≤ i → get_or l.words i 0 ≡ get_or l.initial.words i 0)
