-- `report::tally::tally_of` meets its contract. Assumes nothing.
use mathlib.Core.Path.{◌≡◌, ap, ◌∙◌}
use native.Mathlib.Omega.{arith}
use Rattle.std.specs.Slice.Iter.{chunks_rest, chunks_size}
use Rattle.report.specs.InnerCells.{Block}
use Rattle.report.proofs.InnerTally.{block-is, left-is, tallied-few, tallied-block}
use Rattle.report.proofs.tally.tally_of.Goals as goal

pub loop-block-init : goal.loop-block-init
loop-block-init c =
    let size : chunks_size c.into_iter-block-iterator.result ≡ 4096 = ap chunks_size c.into_iter-block-iterator.ensures.into_iter_gives ∙ c.chunks-block-items.ensures.size in
    record {
      can = omega arith;
      finite = tt;
      size = size;
      rest = ap chunks_rest c.into_iter-block-iterator.ensures.into_iter_gives ∙ c.chunks-block-items.ensures.rest;
      inside = omega arith;
      tallied = c.none-tally.ensures c.args.factors.now;
      few = tallied-few (λ x. omega (arith, c.type_inv.factors x)) (c.none-tally.ensures c.args.factors.now);
    }

pub loop-block-preserved : goal.loop-block-preserved
loop-block-preserved c =
    let k = c.loop-block.invariant in
    let l = c.args.factors.now in
    let from = c.loop-block.from in
    let steps = c.in-Some.ensures.steps in
    let b : Block l from c.in-Some.block.now = block-is l (chunks_rest c.loop-block.block-iterator) c.in-Some.block.now (chunks_rest c.next.new.self) from k.rest steps.1.0 k.inside in
    let size : chunks_size c.next.new.self ≡ 4096 = steps.0 ∙ k.size in
    let tallied = tallied-block b k.tallied c.count_below-counts.ensures.counted c.sum_all-sum.ensures.is
    (c.lead_after-lead.ensures l b k.tallied.lead c.count_below-counts.ensures.counted) in
    record {
      can = omega arith;
      finite = tt;
      size = size;
      rest = left-is l (chunks_rest c.loop-block.block-iterator) c.in-Some.block.now (chunks_rest c.next.new.self) from k.rest steps.1.0;
      inside = b.inside;
      tallied = tallied;
      few = tallied-few (λ x. omega (arith, c.type_inv.factors x)) tallied;
    }
