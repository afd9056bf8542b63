-- `sheet::lines::put_factor` meets its contract. Assumes nothing.
use native.Mathlib.Omega.{arith}
use Rattle.numerals.proofs.Writing.{wrote_as}
use mathlib.Core.Path.{sym, ap}
use mathlib.Core.Bool.{Bool, cond}
use mathlib.Core.List.{[], ◌∷◌, ◌++◌}
use borrow.Author.Tests.{eq-eqb, ne_eqb}
use Rattle.text.specs.Bytes.{bytes}
use Rattle.factor.specs.Cell.{too_long}
use Rattle.numerals.specs.Words.{decimal}
use Rattle.sheet.specs.Lines.{factor_word}
use Rattle.sheet.proofs.InnerShown.{number-as}
use Rattle.sheet.proofs.lines.put_factor.Goals as goal

pub returns-then-factor-eq-TOO_LONG : goal.returns-then-factor-eq-TOO_LONG
unfolding bytes factor_word
returns-then-factor-eq-TOO_LONG c =
    let put = c.put_all.ensures in
    (wrote_as (ap (λ (b : Bool). cond b (bytes "long") (decimal c.args.factor) ++ (10 ∷ [])) (sym (eq-eqb c.args.factor too_long c.if-factor-eq-TOO_LONG.true))) put, omega (arith, put.ends))

pub returns : goal.returns
unfolding bytes factor_word
returns c = (wrote_as (ap (λ (b : Bool). cond b (bytes "long") (decimal c.args.factor) ++ (10 ∷ [])) (sym (ne_eqb c.args.factor too_long c.if-factor-eq-TOO_LONG.false))) (number-as 10 c.from.ensures c.put_number.ensures.0), c.put_number.ensures.1)
