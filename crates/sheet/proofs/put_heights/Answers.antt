-- `sheet::put_heights` meets its contract. Assumes nothing.
use mathlib.Core.Path.{◌≡◌, refl, ◌∙◌}
use native.Mathlib.Omega.{arith}
use Rattle.std.proofs.lemmas.Result.{err_from_is_err_and}
use Rattle.factor.specs.Answers.{Grids, lent}
use Rattle.numerals.proofs.Writing.{wrote_as}
use Rattle.sheet.specs.Sheet.{map_sheet, grid_sheet}
use Rattle.sheet.proofs.InnerSheets.{grid-refused, grid-printed, map-refused, map-printed, map-columns}
use Rattle.sheet.proofs.put_heights.Goals.{In_ok-read_grid}
use Rattle.sheet.proofs.put_heights.Goals as goal

-- the lent grids
abbrev grids : (c : In_ok-read_grid) → Grids
grids c = let a = c.args in lent a.filled.now a.direction.now a.count.now a.lengths.now a.factors.now a.workspace.now

-- a grid that was read is printed as its map
read : (c : In_ok-read_grid) →
    let a = c.args in
    map_sheet a.head.rows a.head.columns a.head.side a.settings c.read_grid.new.heights (grids c)
    ≡ grid_sheet a.head.rows a.head.columns a.head.side a.settings a.text.now a.heights.now (grids c)
read c =
    let a = c.args in
    grid-printed a.head.rows a.head.columns a.head.side a.settings a.text.now a.heights.now (grids c) c.read_grid.ensures _ c.in_ok-read_grid.was

pub returns-in_err-read_grid : goal.returns-in_err-read_grid
returns-in_err-read_grid c =
    let a = c.args in
    let x = err_from_is_err_and c.from_residual.result c.from_residual.ensures.1 in
    let g = lent a.filled.now a.direction.now a.count.now a.lengths.now a.factors.now a.workspace.now in
    let line = grid-refused a.head.rows a.head.columns a.head.side a.settings a.text.now a.heights.now g c.read_grid.ensures c.in_err-read_grid.field-0.0 c.in_err-read_grid.was in
    rw (x.1, x.2) (line, refl)

pub returns-in_err-map : goal.returns-in_err-map
returns-in_err-map c =
    let a = c.args in
    let x = err_from_is_err_and c.from_residual-in_err-map.result c.from_residual-in_err-map.ensures.1 in
    let r = (goal.at.returns-in_err-map c).In_ok-read_grid in
    let line = map-refused a.head.rows a.head.columns a.head.side a.settings c.read_grid.new.heights (grids r) c.map.ensures.answers c.in_err-map.field-0.0 c.in_err-map.was in
    rw (x.1, x.2) (line ∙ read r, refl)

pub put_map-requires : goal.put_map-requires
put_map-requires c =
    let a = c.args in
    let p = c.requires in (
      map-columns a.head.rows a.head.columns a.head.side a.settings c.read_grid.new.heights (grids (goal.at.put_map-requires c).In_ok-read_grid) c.map.ensures.answers _ c.in_ok-map.was,
      record {
        few = omega (arith, p.few);
        ground-long = omega (arith, c.read_grid.auto.heights, p.ground-long);
        filled-long = omega (arith, c.map.auto.filled, p.filled-long);
        direction-long = omega (arith, c.map.auto.direction, p.direction-long);
        count_long = omega (arith, c.map.auto.count, p.count_long);
        lengths-long = omega (arith, c.map.auto.lengths, p.lengths-long);
        factors-long = omega (arith, c.map.auto.factors, p.factors-long);
      },
    )

pub returns : goal.returns
returns c =
    let a = c.args in
    let m = lent c.map.new.filled c.map.new.direction c.map.new.count c.map.new.lengths c.map.new.factors c.map.new.workspace in
    let r = (goal.at.returns c).In_ok-read_grid in
    let lines = map-printed a.head.rows a.head.columns a.head.side a.settings c.read_grid.new.heights (grids r) c.map.ensures.answers c.in_ok-map.map c.in_ok-map.was m c.map.ensures.leaves in
    (wrote_as (lines ∙ read r) c.put_map.ensures.0, omega (arith, c.put_map.ensures.1, c.requires.few))
