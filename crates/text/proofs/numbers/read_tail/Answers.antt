-- `text::numbers::read_tail` meets its contract. Assumes nothing.
use native.Mathlib.Omega.{arith}
use Rattle.text.proofs.InnerForms.{two_from, two-within, zeros-from, zeros-short, zeros_within, tail-short, tail_more}
use Rattle.text.proofs.numbers.read_tail.Goals as goal

pub overflow_sub-q : goal.overflow_sub-q
overflow_sub-q c = two_from _ _ _ c.requires.0 c.requires.1

pub returns-then-q-p-lt2 : goal.returns-then-q-p-lt2
returns-then-q-p-lt2 c = tail-short _ _ _ c.requires.0 c.requires.1 c.if-q-p-lt2.true

pub zeros_end-z-requires : goal.zeros_end-z-requires
zeros_end-z-requires c = two-within _ _ _ c.requires.0 c.requires.1

pub overflow_sub-z : goal.overflow_sub-z
overflow_sub-z c = zeros-from _ _ _ c.zeros_end-z.ensures

pub overflow_sub-z-2 : goal.overflow_sub-z-2
overflow_sub-z-2 c = zeros-short _ _ _ c.zeros_end-z.ensures

pub read_digits-d-requires : goal.read_digits-d-requires
read_digits-d-requires c = (zeros_within _ _ _ c.zeros_end-z.ensures (two-within _ _ _ c.requires.0 c.requires.1), omega arith)

pub returns : goal.returns
returns c = tail_more _ _ _ c.requires.0 c.requires.1 c.if-q-p-lt2.false _ _ _ c.zeros_end-z.ensures c.read_digits-d.ensures
