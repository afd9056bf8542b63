-- The parts of a map: what each assumes of the grids that those before it leave, and that together they give what is promised. Assumes nothing.
use Rattle.std.proofs.Common.{◌≡◌, ℕ, ◌*◌, ◌<◌, Bool, List, map, get_or, ℤ, Ok, sym, refl, ap, ◌∙◌, subst, ap₂, arith}
use Rattle.laws.specs.Tests.{passed}
use Rattle.laws.specs.Sums.{when}
use Rattle.laws.proofs.Sums.{sum-ext}
use Rattle.laws.proofs.Orders.{order-places}
use Rattle.terrain.specs.Cells.{height_of, levels_of, valid_at}
use Rattle.terrain.specs.InnerCells.{Ready}
use Rattle.terrain.specs.InnerLevels.{Levels}
use Rattle.terrain.specs.Filled.{top, filled_levels, filled_of}
use Rattle.terrain.specs.Direction.{directions_of}
use Rattle.terrain.specs.Trail.{mapped_at, valids_of, counts_of, longest_of}
use Rattle.terrain.specs.Falls.{falls_of}
use Rattle.terrain.specs.Downhill.{Downhill}
use Rattle.terrain.specs.Answers.{lent, ground_valids, ground_directions, directions_by, Mapped, answer_of}
use Rattle.terrain.specs.InnerGiven.{Keeping}
use Rattle.terrain.specs.InnerAnswers.{directions_for}
use Rattle.terrain.specs.declared.Source.{Source}
use Rattle.terrain.specs.declared.Source.TheVariants.{Own, Given}
use Rattle.terrain.specs.declared.Summary.{Summary}
use Rattle.terrain.proofs.InnerInterior.{ready-sized}
use Rattle.terrain.proofs.Filling.{filled-long, filled-small, filled-valid}
use Rattle.terrain.proofs.InnerFlooding.{filled-heights}
use Rattle.terrain.proofs.Trails.{mapped_in}

module _ {rows cols : ℕ} {elevation : List ℤ} (ready : Ready rows cols elevation) where
  abbrev lv : List ℕ
  lv = filled_levels rows cols elevation

  -- ---- filled levels

  pub relief-levels : {level : List ℕ} → level ≡ filled_levels rows cols elevation → Levels rows cols level
  relief-levels l =
      subst (Levels rows cols) (sym l) (record { sized = ready-sized ready; long = filled-long rows cols elevation ready; capped = (λ x. omega (arith, filled-small rows cols elevation ready x)) })

  pub relief-small : {level : List ℕ} → level ≡ filled_levels rows cols elevation → (x : ℕ) → get_or level x 0 < top
  relief-small l x = omega (arith, ap (λ (m : List ℕ). get_or m x 0) l, filled-small rows cols elevation ready x)

  -- ---- directions

  -- an order of accepted directions has as many places as there are valid cells
  downhill-valids : {dir order : List ℕ} {m : ℕ} → Keeping rows cols (filled_levels rows cols elevation) dir → Downhill rows cols dir order m → m ≡ ground_valids rows cols elevation
  unfolding ground_valids valids_of
  downhill-valids {dir} k o =
      order-places o.cells (mapped_in rows cols dir k.drawn.long)
      ∙ sum-ext (rows * cols) (λ x. when (mapped_at rows cols dir x) 1) (λ x. when (valid_at (levels_of elevation) x) 1) (λ x h. ap (λ (b : Bool). when b 1) (k.mapped x ∙ filled-valid rows cols elevation ready x))

  -- ---- the grids and the answer

  -- the levels and the directions of the map
  pub directions-for : (source : Source) (given : List ℕ) {level : List ℕ} → level ≡ filled_levels rows cols elevation → directions_for source rows cols level given ≡ directions_by source rows cols elevation given
  unfolding ground_directions
  directions-for Own given l = ap (directions_of rows cols) l
  directions-for Given given l = refl

  -- given directions keep the rules over the levels that the code has
  pub given-keeping : (source : Source) (given : List ℕ) {level : List ℕ} → level ≡ filled_levels rows cols elevation → Keeping rows cols (filled_levels rows cols elevation) (directions_by source rows cols elevation given) → source ≡ Given → Keeping rows cols level given
  given-keeping source given l k e = subst (λ (v : List ℕ). Keeping rows cols v given) (sym l) (subst (λ (o : Source). Keeping rows cols (filled_levels rows cols elevation) (directions_by o rows cols elevation given)) e k)

  pub relief-falls : (source : Source) (given : List ℕ) {level falls : List ℕ} → level ≡ filled_levels rows cols elevation → falls ≡ falls_of rows cols level (directions_for source rows cols level given) → falls ≡ falls_of rows cols (filled_levels rows cols elevation) (directions_by source rows cols elevation given)
  relief-falls source given l f = f ∙ ap₂ (falls_of rows cols) l (directions-for source given l)

  pub relief-filled : {level : List ℕ} {filled : List ℤ} → level ≡ filled_levels rows cols elevation → filled ≡ map height_of level → filled ≡ filled_of rows cols elevation
  relief-filled l f = f ∙ ap (map height_of) l ∙ filled-heights ready

  module _ {dir : List ℕ} (k : Keeping rows cols (filled_levels rows cols elevation) dir) {filled : List ℤ} {direction count falls order : List ℕ} {r : Summary} (f : filled ≡ filled_of rows cols elevation) (d : direction ≡ dir) (w : falls ≡ falls_of rows cols (filled_levels rows cols elevation) dir) (t : (count ≡ counts_of rows cols direction) × ((places : ℕ) × Downhill rows cols direction order places × (r.valid ≡ places) × (r.longest ≡ longest_of rows cols direction))) where
    places : Downhill rows cols dir order t.1.0
    places = subst (λ (v : List ℕ). Downhill rows cols v order t.1.0) d t.1.1

    pub routed-answer : Ok r ≡ answer_of rows cols elevation dir passed
    unfolding answer_of
    routed-answer = ap₂ (λ (m n : ℕ). Ok (record { valid = m; longest = n })) (t.1.2 ∙ downhill-valids k places) (t.1.3 ∙ ap (longest_of rows cols) d)

    pub routed-mapped : Mapped rows cols elevation dir (lent filled direction count falls order)
    routed-mapped =
        record {
          filled_is = f;
          direction-is = d;
          count-is = t.0 ∙ ap (counts_of rows cols) d;
          falls-are = w;
          order = subst (Downhill rows cols dir order) (downhill-valids k places) places;
        }
