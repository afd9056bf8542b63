-- `text::ranges::first_bad` meets its contract. Assumes nothing.
use mathlib.Core.Path.{◌≡◌, refl, sym, ap, ◌∙◌}
use lib.ListN.{get_or}
use lib.IntN.{pos}
use mir.Syntax.{w32}
use mir.Val.{to_z, of_z}
use borrow.Author.Rules.{rules}
use Rattle.text.specs.Ranges.{height_accepted}
use Rattle.text.proofs.InnerTested.{good_more, bad-found, none-found}
use Rattle.text.proofs.ranges.first_bad.Goals as goal

pub returns-then-not-is_height : goal.returns-then-not-is_height
returns-then-not-is_height c =
    let z = get_or c.args.heights.now c.loop-x.x (pos 0) in
    let e : to_z w32 (of_z w32 z) ≡ z = search rules in
    bad-found c.args.heights.now c.loop-x.x c.loop-x-test.true c.loop-x.invariant (sym c.if-not-is_height.true ∙ c.is_height.ensures ∙ ap height_accepted e)

pub loop-x-preserved : goal.loop-x-preserved
loop-x-preserved c =
    let z = get_or c.args.heights.now c.loop-x.x (pos 0) in
    let e : to_z w32 (of_z w32 z) ≡ z = search rules in
    good_more c.args.heights.now c.loop-x.x c.loop-x-test.true c.loop-x.invariant (sym c.if-not-is_height.false ∙ c.is_height.ensures ∙ ap height_accepted e)

pub returns : goal.returns
returns c = none-found c.args.heights.now _ refl (search rules)
