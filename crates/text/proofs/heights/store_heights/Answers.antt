-- `text::heights::store_heights` meets its contract. Assumes nothing.
use mathlib.Core.Path.{◌≡◌, sym, ap, ◌∙◌}
use mathlib.Core.List.{List, ◌++◌}
use Prim.Native.Nat.{◌-◌, ◌≤◌}
use native.Mathlib.Omega.{arith}
use lib.IntN.{ℤ}
use lib.ListN.{length, take}
use mir.Syntax.{w32, w64}
use mir.Val.{to_z, of_z}
use mir.Facts.{to_z-of_z}
use borrow.Author.Rules.{rules}
use Rattle.laws.proofs.Filling.{filling-all}
use Rattle.text.specs.Heights.{heights}
use Rattle.text.specs.InnerHeights.{values_of}
use Rattle.text.proofs.InnerGrids.{height-32, storing-more, store-off, store-all}
use Rattle.text.proofs.heights.store_heights.Goals as goal

pub returns-in_default : goal.returns-in_default
returns-in_default c = absurd (store-off _ _ _ _ _ _ (omega arith) c.loop-h.invariant.good (sym c.in_default.ensures.0))

pub loop-h-preserved : goal.loop-h-preserved
loop-h-preserved c =
    let z = c.in-Ok.height.value in
    let ez : to_z w64 (of_z w64 z) ≡ z = search rules in
    let ey = ap (λ (x : ℤ). to_z w32 (of_z w32 x)) ez ∙ to_z-of_z (height-32 z c.in-Ok.ensures.1.0 c.in-Ok.ensures.1.1) in
    storing-more _ _ _ _ _ _ z _ c.loop-h.h-items c.loop-h.invariant (omega arith) (sym c.in-Ok.ensures.0) ey

pub returns : goal.returns
returns c =
    let a = c.args in
    let x : length c.loop-h.h-items - c.loop-h.h-index ≤ 0 = omega arith in
    filling-all c.loop-h.h-items _ c.loop-h.h-index (omega arith)
    (ap (λ (v : List ℤ). take c.loop-h.h-index c.loop-h.h-items ++ v) (sym (store-all _ _ _ _ x)) ∙ c.loop-h.invariant.values)
    ∙ ap (λ (n : ℤ). values_of (heights n (length a.out.now) a.s.now a.k.at)) (to_z-of_z c.ranges.n)
