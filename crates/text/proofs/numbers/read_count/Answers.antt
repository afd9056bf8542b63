-- `text::numbers::read_count` meets its contract. Assumes nothing.
use mathlib.Core.Path.{sym, ◌∙◌}
use mathlib.Core.Bool.{true≢false}
use Prim.Native.Nat.{◌≤◌}
use native.Mathlib.Decide.{dec_lt}
use native.Mathlib.Omega.{arith}
use Rattle.text.proofs.Accepted.{size_is}
use Rattle.text.proofs.Ends.{first-solid}
use Rattle.text.proofs.InnerSteps.{count_none, count-empty, count-off, count_low, count-high, count-on, size-many, size-few}
use Rattle.text.proofs.numbers.read_count.Goals.{then-e-a-via-then-e-a, then-e-a-via-else-e-a+then-not-ends}
use Rattle.text.proofs.numbers.read_count.Goals as goal

pub returns-then-s-a : goal.returns-then-s-a
returns-then-s-a c = (count_none _ _ _ c.word_start-a.ensures c.if-s-a.true, tt)

pub refuse-requires : goal.refuse-requires
refuse-requires c = (
  c.if-s-a.false,
  first-solid _ _ _ c.word_start-a.ensures c.if-s-a.false,
  λ z. absurd (true≢false (sym z)),
)

pub returns-then-e-a : goal.returns-then-e-a
returns-then-e-a c =
    let q = c.refuse.ensures in (
      rw (q.0, q.1)
          (elim c.then-e-a.branch [
            | then-e-a-via-then-e-a w ↦ count-empty _ _ _ c.word_start-a.ensures c.if-s-a.false _ _ c.read_digits-d.ensures w.if-e-a.true
            | then-e-a-via-else-e-a+then-not-ends w ↦
                count-off _ _ _ c.word_start-a.ensures c.if-s-a.false _ _ c.read_digits-d.ensures w.if-e-a.false (sym w.ends.ensures ∙ w.if-not-ends.true)
          ]),
      tt,
    )

pub returns-then-not-is_size : goal.returns-then-not-is_size
returns-then-not-is_size c =
    let e = sym c.ends.ensures ∙ c.if-not-ends.false in
    let v = c.read_digits-d.result.value in (
      elim (dec_lt v 1) [
        | yes l ↦ count_low _ _ _ c.word_start-a.ensures c.if-s-a.false _ _ c.read_digits-d.ensures c.if-e-a.false e l
        | no f ↦
            let k : 1 ≤ v = omega (arith, f) in
            count-high _ _ _ c.word_start-a.ensures c.if-s-a.false _ _ c.read_digits-d.ensures c.if-e-a.false e k
            (size-many v (sym c.is_size.ensures ∙ c.if-not-is_size.true) k)
      ],
      tt,
    )

pub returns : goal.returns
returns c =
    let t = sym c.is_size.ensures ∙ c.if-not-is_size.false in (
      count-on _ _ _ c.word_start-a.ensures c.if-s-a.false _ _ c.read_digits-d.ensures c.if-e-a.false (sym c.ends.ensures ∙ c.if-not-ends.false)
          (size_is _ t).0 (size-few _ t),
      size-few _ t,
    )
