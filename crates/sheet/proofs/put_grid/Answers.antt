-- `sheet::put_grid` meets its contract. Assumes nothing.
use mathlib.Core.Path.{ap₂, subst}
use mathlib.Core.List.{List}
use Prim.Native.Nat.{ℕ, ◌*◌}
use lib.IntN.{ℤ, pos}
use Rattle.factor.specs.Answers.{lent}
use Rattle.text.specs.declared.Header.{Header}
use Rattle.sheet.specs.Sheet.{grid_sheet}
use Rattle.sheet.specs.InnerWriting.{PutsOr}
use Rattle.sheet.proofs.InnerSheets.{part_same}
use Rattle.sheet.proofs.put_grid.Goals as goal

abbrev cells_of : Header → ℕ
cells_of h = h.rows * h.columns

pub returns : goal.returns
returns c =
    let a = c.args in
    let n = cells_of a.head in
    subst (λ (l : List ℕ). PutsOr a.sheet.now l c.put_heights.result c.put_heights.new.sheet)
    (ap₂ (λ (z : List ℤ) (k : List ℕ). grid_sheet a.head.rows a.head.columns a.head.side a.settings a.text.now z (lent z k k k k k)) (part_same (pos 0) 2048 n c.requires) (part_same 0 2048 n c.requires))
    c.put_heights.ensures
