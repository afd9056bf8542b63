-- `sheet::put_lines` meets its contract. Assumes nothing.
use mathlib.Core.Path.{refl, subst}
use mathlib.Core.List.{List}
use Prim.Native.Nat.{ℕ}
use native.Mathlib.Nat.{mul-le-mul}
use native.Mathlib.Omega.{arith}
use Rattle.std.proofs.lemmas.Result.{err_from_is_err_and}
use Rattle.sheet.specs.InnerWriting.{PutsOr}
use Rattle.sheet.proofs.InnerSheets.{text-long, head-refused, head-large, head-printed, head-few}
use Rattle.sheet.proofs.put_lines.Goals as goal

pub returns-then-text-gt32768 : goal.returns-then-text-gt32768
returns-then-text-gt32768 c = let a = c.args in (text-long a.settings a.text.now c.if-text-gt32768.true, refl)

pub returns-in_err-read : goal.returns-in_err-read
returns-in_err-read c =
    let a = c.args in
    let x = err_from_is_err_and c.from_residual.result c.from_residual.ensures.1 in
    let line = head-refused a.settings a.text.now c.if-text-gt32768.false c.read_header.ensures.answers c.in_err-read.field-0.0 c.in_err-read.was in
    rw (x.1, x.2) (line, refl)

pub overflow_mul-head : goal.overflow_mul-head
overflow_mul-head c =
    let a = c.args in
    let few = head-few a.settings a.text.now c.if-text-gt32768.false c.read_header.ensures.answers c.in_ok-read.read c.in_ok-read.was in
    omega (arith, mul-le-mul few.0 few.1)

pub returns-then-head-gt2048 : goal.returns-then-head-gt2048
returns-then-head-gt2048 c =
    let a = c.args in
    (head-large a.settings a.text.now c.if-text-gt32768.false c.read_header.ensures.answers c.in_ok-read.read c.in_ok-read.was c.if-head-gt2048.true, refl)

pub returns : goal.returns
returns c =
    let a = c.args in
    let whole = head-printed a.settings a.text.now c.if-text-gt32768.false c.read_header.ensures.answers c.in_ok-read.read c.in_ok-read.was c.if-head-gt2048.false in
    subst (λ (l : List ℕ). PutsOr a.sheet.now l c.put_grid.result c.put_grid.new.sheet) whole c.put_grid.ensures
