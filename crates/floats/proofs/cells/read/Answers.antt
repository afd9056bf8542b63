-- `floats::cells::read` meets its contract. Assumes nothing.
use mathlib.Core.Path.{◌≡◌, ap, ◌∙◌}
use mathlib.Core.List.{List}
use native.Mathlib.Nat.{mul-le-mul}
use native.Mathlib.Omega.{arith}
use lib.IntN.{ℤ}
use mir.Syntax.{w64}
use mir.Val.{to_z, of_z}
use Rattle.std.proofs.Common.{Err}
use Rattle.text.specs.Answers.{accepted, header_of}
use Rattle.floats.specs.Rounding.{nearest_float}
use Rattle.floats.proofs.InnerCells.{judged-good, body-judged, body-good}
use borrow.Author.Rules.{rules}
use Rattle.floats.proofs.cells.read.Goals.{After-nearest_float-v}
use Rattle.floats.proofs.cells.read.Goals as goal

-- the NoData float
float_is : (c : After-nearest_float-v) → c.nearest_float-v.result ≡ nearest_float c.args.header.no_data
float_is c =
    let bits : to_z w64 (of_z w64 c.args.header.no_data) ≡ c.args.header.no_data = search rules in
    c.nearest_float-v.ensures ∙ ap nearest_float bits

pub returns-in_err-judge : goal.returns-in_err-judge
returns-in_err-judge c =
    let no-data = float_is (goal.at.returns-in_err-judge c).After-nearest_float-v in
    let e : c.from_residual.result ≡ Err c.in_err-judge.field-0.0 = search rules in
    rw e (body-judged (header_of c.args.header) c.args.out.now _ c.if-out-header.false c.if-floats-out.false _ _ (rw no-data at c.in_err-judge.ensures))

pub store-requires : goal.store-requires
store-requires c = (
  c.if-floats-out.false,
  omega (arith, c.if-out-header.false, mul-le-mul c.requires.rows_few c.requires.columns-few),
  judged-good _ _ _ c.in_ok-judge.ensures,
)

pub returns : goal.returns
returns c =
    let no-data = float_is (goal.at.returns c).After-nearest_float-v in
    let h = header_of c.args.header in
    ap (λ (v : List ℤ). record { answer = accepted h; heights = v }) (rw no-data at c.store.ensures)
    ∙ body-good h c.args.out.now _ c.if-out-header.false c.if-floats-out.false (rw no-data at c.in_ok-judge.ensures)
