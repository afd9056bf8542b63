-- `terrain::surface::Surface::level_beside` meets its contract. Assumes nothing.
use Rattle.std.proofs.Common.{ℕ, not, get_or, ap, ◌∙◌, arith, ne_eqb}
use Rattle.terrain.proofs.InnerInterior.{inside_is, inside-lt}
use Rattle.terrain.proofs.surface.Surface.level_beside.Goals as goal

pub offset_bounds-level-beside : goal.offset_bounds-level-beside
offset_bounds-level-beside g c =
    let s = c.args.self in
    let inside = c.requires.2 (ap not (ne_eqb g.row.INSIDE 0 c.if-this-ne0.true)) in
    omega (arith, s.levels.long, inside-lt s.rows s.columns c.args.x c.args.k c.beside.result inside c.requires.1 c.beside.ensures)

pub bounds-level-beside : goal.bounds-level-beside
bounds-level-beside g c =
    let s = c.args.self in
    let inside = c.requires.2 (ap not (ne_eqb g.row.INSIDE 0 c.if-this-ne0.true)) in
    omega (arith, s.levels.long, inside-lt s.rows s.columns c.args.x c.args.k c.beside.result inside c.requires.1 c.beside.ensures)

pub returns-then-this-ne0 : goal.returns-then-this-ne0
returns-then-this-ne0 g c =
    let s = c.args.self in
    let inside = c.requires.2 (ap not (ne_eqb g.row.INSIDE 0 c.if-this-ne0.true)) in
    ap (λ (y : ℕ). get_or s.level.now y 0) (c.beside.ensures ∙ inside_is s.rows s.columns c.args.x c.args.k inside c.requires.1)
