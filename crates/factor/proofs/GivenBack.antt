-- RULES 4.7: where the lent grid holds our own directions, it makes no difference whether they are taken as given ones. Assumes nothing.
use mathlib.Core.Path.{◌≡◌, refl, sym, ap, ap₂, ◌∙◌}
use mathlib.Core.List.{List, [], ◌∷◌, ◌++◌, append_assoc}
use Prim.Native.Nat.{ℕ, ◌*◌}
use lib.IntN.{ℤ}
use Rattle.laws.specs.Tests.{Test, passed, failed, verdict}
use Rattle.laws.proofs.Verdicts.{verdict-before, verdict-after, verdict-parts}
use Rattle.text.specs.Ranges.{height_test}
use Rattle.terrain.specs.Filled.{filled_levels}
use Rattle.terrain.specs.Given.{given_tests}
use Rattle.terrain.specs.Answers.{ground_directions}
use Rattle.terrain.specs.declared.Source.TheVariants.{Own, Given}
use Rattle.terrain.proofs.Public.{accepted-ready, own-accepted}
use Rattle.factor.specs.Farms.{Farms}
use Rattle.factor.specs.Answers.{Grids, first_tests, tests, judged, answer_of, answer, grids_of, after}
use Rattle.factor.proofs.Judging.{lent_on, first_passes}

module _ (rows cols side : ℕ) (farms : Farms) (elevation : List ℤ) (g : Grids) (own : g.direction ≡ ground_directions rows cols elevation) where
  abbrev lv : List ℕ
  lv = filled_levels rows cols elevation

  -- the tests that do not depend on whose the directions are
  abbrev common : List Test
  common = first_tests rows cols side farms elevation g ++ (height_test (rows * cols) elevation ∷ [])

  own_is : judged rows cols side farms Own elevation g ≡ verdict common
  unfolding judged tests
  own_is = refl

  given_is : judged rows cols side farms Given elevation g ≡ verdict (common ++ given_tests rows cols lv g.direction)
  unfolding judged tests
  given_is = ap verdict (sym (append_assoc (first_tests rows cols side farms elevation g) (height_test (rows * cols) elevation ∷ [])
      (given_tests rows cols lv g.direction)))

  accepted : verdict common ≡ passed → verdict (given_tests rows cols lv g.direction) ≡ passed
  accepted e =
      let f = (verdict-parts (first_tests rows cols side farms elevation g) (height_test (rows * cols) elevation ∷ []) e).0 in
      let ready = accepted-ready rows cols Own elevation (lent_on g) (sym (first_passes rows cols side farms elevation g f Own) ∙ own_is ∙ e) in
      ap (λ (d : List ℕ). verdict (given_tests rows cols lv d)) own ∙ own-accepted rows cols elevation ready

  pub back-judged : judged rows cols side farms Given elevation g ≡ judged rows cols side farms Own elevation g
  back-judged = given_is ∙ go (verdict common) refl ∙ sym own_is
    where
      go : (t : Test) → verdict common ≡ t → verdict (common ++ given_tests rows cols lv g.direction) ≡ verdict common
      go passed e = verdict-after common (given_tests rows cols lv g.direction) e ∙ accepted e ∙ sym e
      go (failed number place) e = verdict-before common (given_tests rows cols lv g.direction) e ∙ sym e

  -- the same answer, and the same grids afterwards
  pub back-answer : answer rows cols side farms Given elevation g ≡ answer rows cols side farms Own elevation g
  unfolding answer
  back-answer = ap₂ (answer_of rows cols elevation) own back-judged

  pub back-after : after rows cols side farms Given elevation g ≡ after rows cols side farms Own elevation g
  unfolding after
  back-after = ap₂ (λ (d : List ℕ) (t : Test). grids_of rows cols side farms elevation d g t) own back-judged
