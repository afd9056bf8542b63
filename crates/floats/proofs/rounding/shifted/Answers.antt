-- `floats::rounding::shifted` meets its contract. Assumes nothing.
use mathlib.Core.Path.{sym, ap, ◌∙◌, subst}
use Prim.Native.Nat.{ℕ, ◌+◌, ◌-◌, ◌/◌, ◌%◌, ◌^◌, ◌≤◌}
use native.Mathlib.Omega.{arith}
use Rattle.floats.specs.Rounding.{nearest}
use Rattle.floats.proofs.InnerRounding.{half-bits, shift_is, shift_le}
use Rattle.floats.proofs.rounding.shifted.Goals as goal

pub returns : goal.returns
returns c =
    let e =
    ap (λ (h : ℕ). (c.args.n + (h - 1) + c.args.n / 2 ^ c.args.s % 2) / 2 ^ c.args.s) (half-bits c.args.s c.requires.1 c.requires.2)
    ∙ shift_is c.args.s c.requires.1 c.requires.2 c.args.n in
    let few : nearest c.args.n (2 ^ c.args.s) ≤ 2147483648 = omega (arith, shift_le c.args.s c.requires.1 c.requires.2 c.args.n, c.requires.0) in
    (e, subst (λ (k : ℕ). k ≤ 2147483648) (sym e) few)
