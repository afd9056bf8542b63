-- `terrain::trail::longest_trail` meets its contract. Assumes nothing.
use Rattle.terrain.proofs.InnerDescending.{place-valid, place-cell}
use Rattle.terrain.proofs.InnerFollowing.{back-small, back_more, back-all}
use Rattle.std.proofs.Common.{◌≡◌, ℕ, ◌+◌, ◌-◌, ◌<◌, List, length, get_or, Option, Some, Bor, ap, ◌∙◌, arith}
use Rattle.std.proofs.lemmas.Grind.{get_or_default_zero}
use Rattle.std.proofs.lemmas.Iterator.Adapters.{YieldsList-from_rev_slice}
use Rattle.std.proofs.lemmas.Iterator.Consumers.{YieldsList-turn, YieldsList-end}
use Rattle.std.proofs.lemmas.List.{get_or-reverse, length-reverse, length_push}
use Rattle.std.specs.Iterator.{Yields}
use Rattle.std.specs.Iterator.Adapters.{rev_source, rev_steps}
use Rattle.std.specs.declared.iter.Rev.{Rev}
use Rattle.std.specs.declared.slice.Iter.{Iter}
use Rattle.std.specs.Slice.Iter.{iter_rest, iter_steps_back}
use Rattle.terrain.proofs.trail.longest_trail.Goals as goal

-- the cell of this turn stands at the last place that no turn had
back-turn : (s : Rev (Iter ℕ)) (order : List ℕ) → iter_rest (rev_source s) ≡ order → (xs : List (Bor ℕ)) (t : Rev (Iter ℕ)) → Yields (rev_steps iter_steps_back) s xs t →
    (r : Option (Bor ℕ)) (u : Rev (Iter ℕ)) (x : Bor ℕ) → r ≡ Some x → rev_steps iter_steps_back t r u → (0 < length order - length xs) × (x.now ≡ get_or order (length order - length xs - 1) 0)
back-turn s order e xs t y r u x i n =
    let t = YieldsList-turn (YieldsList-from_rev_slice order e) xs t y r u x i n in
    let h : length xs < length order = omega (arith, t.0, length-reverse order) in (
      omega arith,
      t.1 ∙ get_or-reverse order (length xs) x.now h ∙ get_or_default_zero order (length order - 1 - length xs) x.now (omega arith)
          ∙ ap (λ (i : ℕ). get_or order i 0) (omega arith),
    )

pub receiver-y-requires : goal.receiver-y-requires
receiver-y-requires c =
    let t = back-turn _ c.args.order.now (cc) c.loop-cell.yielded _ c.loop-cell.yielded_by _ _ _ c.in-Some.is c.next.ensures.steps in
    place-valid c.requires.0.drawn c.requires.1 (omega arith) t.1

pub overflow_add-cells : goal.overflow_add-cells
overflow_add-cells c =
    let t = back-turn _ c.args.order.now (cc) c.loop-cell.yielded _ c.loop-cell.yielded_by _ _ _ c.in-Some.is c.next.ensures.steps in
    omega (arith, back-small c.requires.0 c.requires.1 c.loop-cell.invariant t.0 (omega arith) t.1 c.receiver-y.ensures c.value_at-cells.ensures, c.requires.0.drawn.sized.small)

pub bounds-workspace-x : goal.bounds-workspace-x
bounds-workspace-x c =
    let t = back-turn _ c.args.order.now (cc) c.loop-cell.yielded _ c.loop-cell.yielded_by _ _ _ c.in-Some.is c.next.ensures.steps in
    omega (arith, place-cell c.requires.0.drawn c.requires.1 (omega arith) t.1, c.loop-cell.invariant.long)

pub loop-cell-preserved : goal.loop-cell-preserved
loop-cell-preserved c =
    let t = back-turn _ c.args.order.now (cc) c.loop-cell.yielded _ c.loop-cell.yielded_by _ _ _ c.in-Some.is c.next.ensures.steps in
    let e : length c.args.order.now - (length c.loop-cell.yielded + 1) ≡ length c.args.order.now - length c.loop-cell.yielded - 1 = omega arith in
    rw (length_push c.loop-cell.yielded c.in-Some.field-0, e)
    (back_more c.requires.0 c.requires.1 c.loop-cell.invariant t.0 (omega arith) t.1 c.receiver-y.ensures c.value_at-cells.ensures c.max-most.ensures)

pub returns : goal.returns
returns c =
    let t = YieldsList-end (YieldsList-from_rev_slice c.args.order.now cc) c.loop-cell.yielded _ c.loop-cell.yielded_by _ _ c.in-None.is c.next.ensures.steps in
    omega (arith, back-all c.requires.0 c.requires.1 (omega (arith, t.1, length-reverse c.args.order.now)) c.loop-cell.invariant)
