-- `factor::cell::factor_of` meets its contract. Assumes nothing.
use borrow.Author.Rules.{rules}
use mathlib.Core.Path.{◌≡◌, ◌∙◌}
use Prim.Native.Nat.{◌+◌, ◌-◌, ◌*◌, ◌≤◌}
use native.Mathlib.Omega.{arith}
use Rattle.factor.proofs.Factors.{exponent-in, product-within, factor-long, factor-short}
use Rattle.factor.proofs.cell.factor_of.Goals as goal

pub returns-then-mm-gt-GREATEST_MM : goal.returns-then-mm-gt-GREATEST_MM
returns-then-mm-gt-GREATEST_MM c =
    let a = c.args in
    factor-long a.formula a.side a.q a.length (rw c.from.ensures at c.if-mm-gt-GREATEST_MM.true)

pub overflow_sub-class : goal.overflow_sub-class
overflow_sub-class c =
    let bounds : (2 ≤ c.exponent_of-class.result) × (c.exponent_of-class.result ≤ 5) = rw c.exponent_of-class.ensures (exponent-in c.args.side c.args.q) in
    bounds.0

pub length_factor-t-requires : goal.length_factor-t-requires
length_factor-t-requires c =
    let bounds : (2 ≤ c.exponent_of-class.result) × (c.exponent_of-class.result ≤ 5) = rw c.exponent_of-class.ensures (exponent-in c.args.side c.args.q) in
    record { class-in = omega (arith, bounds); length-in = search rules; listed = c.requires.listed }

pub overflow_mul-result : goal.overflow_mul-result
overflow_mul-result c =
    let small : c.length_factor-t.result * c.steepness_factor.result ≤ 70035000 = rw (c.length_factor-t.ensures, c.steepness_factor.ensures) (product-within _ _ _ _ _) in
    omega (arith, small)

pub overflow_cast-result : goal.overflow_cast-result
overflow_cast-result c =
    let small : c.length_factor-t.result * c.steepness_factor.result ≤ 70035000 = rw (c.length_factor-t.ensures, c.steepness_factor.ensures) (product-within _ _ _ _ _) in
    omega (arith, small)

pub returns : goal.returns
returns c =
    let bounds : (2 ≤ c.exponent_of-class.result) × (c.exponent_of-class.result ≤ 5) = rw c.exponent_of-class.ensures (exponent-in c.args.side c.args.q) in
    let a = c.args in
    let e : c.exponent_of-class.result - 2 + 2 ≡ c.exponent_of-class.result = omega (arith, bounds.0) in
    factor-short a.formula a.side a.q a.length (rw c.from.ensures at c.if-mm-gt-GREATEST_MM.false) (e ∙ c.exponent_of-class.ensures) (rw c.from.ensures at c.length_factor-t.ensures)
    c.steepness_factor.ensures
