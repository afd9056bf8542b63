-- `writer::room` meets its contract. Assumes nothing.
use mathlib.Core.Path.{◌≡◌, sym, ◌∙◌}
use mathlib.Core.Bool.{true, true≢false}
use Prim.Native.Nat.{◌*◌, ◌≤◌}
use native.Mathlib.Omega.{arith}
use Rattle.text.specs.Ranges.{size_accepted}
use Rattle.text.proofs.Accepted.{area-few}
use Rattle.writer.proofs.Rooms.{room-holds, room-for, no_rows, no-columns}
use Rattle.writer.proofs.room.Goals.{Else-not-is_size-2}
use Rattle.writer.proofs.room.Goals as goal

-- a shape that both tests leave
accepted : (c : Else-not-is_size-2) → (size_accepted c.args.rows ≡ true) × (size_accepted c.args.columns ≡ true)
accepted c = (cc, cc)

few : (c : Else-not-is_size-2) → c.args.rows * c.args.columns ≤ 1048576
few c = let s = accepted c in area-few _ _ s.0 s.1

pub returns-then-not-is_size : goal.returns-then-not-is_size
returns-then-not-is_size c =
    let a = c.args in
    let e = sym c.is_size.ensures ∙ c.if-not-is_size.true in
    record { is = sym (no_rows a.rows a.columns e); holds = room-holds a.rows a.columns 0 (λ r k. absurd (true≢false (sym r ∙ e))) }

pub returns-then-not-is_size-2 : goal.returns-then-not-is_size-2
returns-then-not-is_size-2 c =
    let a = c.args in
    let e = sym c.is_size-2.ensures ∙ c.if-not-is_size-2.true in
    record { is = sym (no-columns a.rows a.columns e); holds = room-holds a.rows a.columns 0 (λ r k. absurd (true≢false (sym k ∙ e))) }

pub overflow_mul-result : goal.overflow_mul-result
overflow_mul-result c = omega (arith, few (goal.at.overflow_mul-result c).Else-not-is_size-2)

pub overflow_mul-result-2 : goal.overflow_mul-result-2
overflow_mul-result-2 c = omega (arith, few (goal.at.overflow_mul-result-2 c).Else-not-is_size-2)

pub overflow_add-result : goal.overflow_add-result
overflow_add-result c = omega (arith, few (goal.at.overflow_add-result c).Else-not-is_size-2)

pub returns : goal.returns
returns c =
    let a = c.args in
    let s = accepted (goal.at.returns c).Else-not-is_size-2 in
    record { is = sym (room-for a.rows a.columns s.0 s.1); holds = room-holds a.rows a.columns _ (λ r k. omega arith) }
