-- `sheet::lines::put_values` meets its contract. Assumes nothing.
use borrow.Author.Rules.{rules}
use mathlib.Core.Path.{◌≡◌, ap}
use mathlib.Core.List.{[], ◌∷◌, ◌++◌}
use lib.IntN.{ℤ}
use mir.Syntax.{w32}
use mir.Facts.{to_z-of_z}
use mir.Val.{to_z, of_z}
use native.Mathlib.Omega.{arith}
use Rattle.numerals.proofs.Writing.{wrote_as, wrote-word}
use Rattle.numerals.specs.Words.{integer, line}
use Rattle.sheet.specs.Lines.{value_words}
use Rattle.sheet.proofs.lines.put_values.Goals as goal

pub returns : goal.returns
unfolding line value_words
returns c =
    let eg : to_z w32 (of_z w32 c.args.cell.elevation) ≡ c.args.cell.elevation = to_z-of_z {w = w32} (search rules) in
    let ef : to_z w32 (of_z w32 c.args.cell.filled) ≡ c.args.cell.filled = to_z-of_z {w = w32} (search rules) in (
      wrote-word (integer c.args.cell.elevation) (wrote_as (ap (λ (z : ℤ). integer z ++ (32 ∷ [])) eg) c.put_height-a.ensures.0)
          (wrote-word (integer c.args.cell.filled) (wrote_as (ap (λ (z : ℤ). integer z ++ (32 ∷ [])) ef) c.put_height-b.ensures.0) c.put_flow.ensures.0),
      omega (arith, c.put_height-a.ensures.1, c.put_height-b.ensures.1, c.put_flow.ensures.1),
    )
