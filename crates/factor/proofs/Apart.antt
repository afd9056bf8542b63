-- Two farms on one map: what no setting changes; and that a cell's length and LS depend on its own rules, on those of the cells on trails into it,
-- and on no other. Assumes nothing.
use mathlib.Core.Path.{◌≡◌, refl, sym, ap, ap₂, ◌∙◌, subst}
use mathlib.Core.List.{List}
use mathlib.Core.Logic.{inl, inr, ⊎_elim}
use mathlib.Core.Bool.{true, false, cond, true≢false}
use Prim.Native.Nat.{ℕ, zero, suc, ◌*◌, ◌<◌}
use lib.IntN.{ℤ}
use native.Mathlib.Omega.{arith}
use borrow.Author.Tests.{ltb-true, eqb-true, eq-eqb, ne_eqb}
use lib.Dec.{eqb}
use lib.ListN.{get_or}
use Rattle.laws.specs.First.{some_of}
use Rattle.laws.specs.Sums.{greatest_to, when}
use Rattle.laws.specs.Tests.{passed}
use Rattle.laws.proofs.First.{first_holds}
use Rattle.laws.proofs.Lists.{get_or-tab}
use Rattle.laws.proofs.Sums.{when-ext, greatest-ext}
use Rattle.laws.proofs.Tests.{two as two_cases, and_both}
use Rattle.settings.specs.declared.Settings.{Settings}
use Rattle.settings.specs.declared.Rules.{Rules}
use Rattle.terrain.specs.Cells.{neighbour, code_of, bearing_of}
use Rattle.terrain.specs.Trail.{mapped_at, flows_at, next_at, steps_in, into_at, counts_of, Trail, ends, goes, Meets}
use Rattle.terrain.specs.InnerTrail.{Directed}
use Rattle.terrain.specs.Filled.{filled_levels}
use Rattle.terrain.specs.Answers.{directions_by}
use Rattle.terrain.specs.declared.Source.{Source}
use Rattle.terrain.proofs.Public.{accepted-directed}
use Rattle.factor.specs.Farms.{Farms, two, farm_at, rules_in}
use Rattle.factor.specs.Channel.{channel_at}
use Rattle.factor.specs.Inflow.{start_length}
use Rattle.factor.specs.Length.{brought_to, length_from, length_in, lengths_of}
use Rattle.factor.specs.Slope.{steepness_at}
use Rattle.factor.specs.Cell.{factor_of}
use Rattle.factor.specs.Grid.{no_data_factor, factor_at, factors_of}
use Rattle.factor.specs.Answers.{Grids, judged, map_of, answer_of, grids_of, answer, after}
use Rattle.factor.specs.Apart.{OnTrailInto, Same}
use Rattle.factor.proofs.Judging.{lent_on, first_passes, first-of, first-marked}

module _ (rows cols : ℕ) (dir : List ℕ) where
  -- a trail meets the cell that it begins at
  meets-start : {x : ℕ} (t : Trail rows cols dir x) → Meets rows cols dir x t
  meets-start (ends x e) = refl
  meets-start (goes x k h e t) = inl refl

  -- the bearing of a code
  code-bearing : (k : ℕ) → k < 8 → bearing_of (code_of k) ≡ k
  unfolding bearing_of
  code-bearing zero h = refl
  code-bearing (suc zero) h = refl
  code-bearing (suc (suc zero)) h = refl
  code-bearing (suc (suc (suc zero))) h = refl
  code-bearing (suc (suc (suc (suc zero)))) h = refl
  code-bearing (suc (suc (suc (suc (suc zero))))) h = refl
  code-bearing (suc (suc (suc (suc (suc (suc zero)))))) h = refl
  code-bearing (suc (suc (suc (suc (suc (suc (suc zero))))))) h = refl
  code-bearing (suc (suc (suc (suc (suc (suc (suc (suc k)))))))) h = absurd (omega arith)

  -- the cell that x points at
  points : (x k : ℕ) → k < 8 → get_or dir x 255 ≡ code_of k → next_at rows cols dir x ≡ neighbour rows cols x k
  unfolding next_at
  points x k h e = ap (neighbour rows cols x) (ap bearing_of e ∙ code-bearing k h)

  -- a cell with direction 0 points at none
  ends-flow : (x : ℕ) → get_or dir x 255 ≡ 0 → flows_at rows cols dir x ≡ false
  unfolding flows_at bearing_of
  ends-flow x e = rw e

  -- a trail that meets x meets the cell that x points at
  meets-next : {y : ℕ} (x z : ℕ) (t : Trail rows cols dir y) → flows_at rows cols dir x ≡ true → next_at rows cols dir x ≡ z → Meets rows cols dir x t →
      Meets rows cols dir z t
  meets-next x z (ends y e) f n m = absurd (true≢false (sym f ∙ ap (flows_at rows cols dir) m ∙ ends-flow y e))
  meets-next x z (goes y k h e t) f n (inl m) = inr (subst (λ (c : ℕ). Meets rows cols dir c t)
      (sym (points y k h e) ∙ ap (next_at rows cols dir) (sym m) ∙ n) (meets-start t))
  meets-next x z (goes y k h e t) f n (inr m) = inr (meets-next x z t f n m)

  -- so what is on a trail into an inflow of z is on a trail into z
  pub into-inflow : (y z k : ℕ) → into_at rows cols dir z k ≡ true → OnTrailInto rows cols dir y (neighbour rows cols z k) → OnTrailInto rows cols dir y z
  unfolding into_at
  into-inflow y z k i o =
      let x = neighbour rows cols z k in
      let b = and_both (flows_at rows cols dir x) (eqb (next_at rows cols dir x) z) i in
      (o.0, meets-next x z o.0 b.0 (eqb-true (next_at rows cols dir x) z b.1) o.1)

-- ---- where every trail ends, each cell that points at another has a trail

module _ {rows cols : ℕ} {dir : List ℕ} (d : Directed rows cols dir) where
  flows-code : (x : ℕ) → flows_at rows cols dir x ≡ true → (bearing_of (get_or dir x 255) < 8) × (get_or dir x 255 ≡ code_of (bearing_of (get_or dir x 255)))
  unfolding flows_at bearing_of
  flows-code x e =
      let code = get_or dir x 255 in
      let l = ltb-true (bearing_of code) 8 e in
      (l, eqb-true code (code_of (bearing_of code)) (first_holds (λ k. eqb code (code_of k)) 8 l))

  trail-below : (m x : ℕ) → steps_in rows cols dir (rows * cols) x < m → flows_at rows cols dir x ≡ true → Trail rows cols dir x
  unfolding next_at
  trail-below zero x h q = absurd (omega arith)
  trail-below (suc m) x h q =
      let c = flows-code x q in
      goes x (bearing_of (get_or dir x 255)) c.0 c.1
      (⊎_elim (λ p. trail-below m (next_at rows cols dir x) (omega (arith, d.less x q)) p)
      (λ p. ends (next_at rows cols dir x) (d.drawn.stops (next_at rows cols dir x) (d.drawn.stays x q) p))
      (two_cases (flows_at rows cols dir (next_at rows cols dir x))))

  pub trail-there : (x : ℕ) → flows_at rows cols dir x ≡ true → Trail rows cols dir x
  trail-there x q = trail-below (suc (steps_in rows cols dir (rows * cols) x)) x (omega arith) q

-- ---- the same rules on every trail into a cell

module _ (rows cols side : ℕ) (lv dir count : List ℕ) (rules rules' : ℕ → Rules)
    (trails : (x : ℕ) → flows_at rows cols dir x ≡ true → Trail rows cols dir x) where
  -- the rules of z, and of all cells on trails into it, are the same
  abbrev pub SameInto : ℕ → Type 0
  SameInto z = (rules z ≡ rules' z) × ((y : ℕ) → OnTrailInto rows cols dir y z → rules y ≡ rules' y)

  same-inflow : (z k : ℕ) → into_at rows cols dir z k ≡ true → SameInto z → SameInto (neighbour rows cols z k)
  unfolding into_at
  same-inflow z k i s =
      let x = neighbour rows cols z k in
      let b = and_both (flows_at rows cols dir x) (eqb (next_at rows cols dir x) z) i in
      let t = trails x b.0 in
      let o : OnTrailInto rows cols dir x z = (
        t,
        meets-next rows cols dir x z t b.0 (eqb-true (next_at rows cols dir x) z b.1)
            (meets-start rows cols dir t),
      ) in
      (s.1 x o, λ y p. s.1 y (into-inflow rows cols dir y z k i p))

  -- what each inflow brings to z, by the second rules
  abbrev brings : (ℕ → ℕ) → ℕ → ℕ → ℕ
  brings f z k = brought_to rows cols side (rules' z) lv dir z (neighbour rows cols z k) (f (neighbour rows cols z k))

  abbrev most : (ℕ → ℕ) → ℕ → ℕ
  most f z = greatest_to 8 (λ k. when (into_at rows cols dir z k) (brings f z k))

  abbrev length_by : Rules → ℕ → ℕ → ℕ
  length_by r z m = cond (mapped_at rows cols dir z) (cond (channel_at rows cols r count z) 0
      (cond (some_of (into_at rows cols dir z) 8) m (start_length (get_or dir z 255)))) 0

  from-rules : (f : ℕ → ℕ) (z : ℕ) → rules z ≡ rules' z → length_from rows cols side rules lv dir count f z ≡ length_by (rules' z) z (most f z)
  unfolding length_from
  from-rules f z e = ap (λ (r : Rules). length_by r z (greatest_to 8
      (λ k. when (into_at rows cols dir z k) (brought_to rows cols side r lv dir z (neighbour rows cols z k) (f (neighbour rows cols z k)))))) e

  from_second : (f : ℕ → ℕ) (z : ℕ) → length_from rows cols side rules' lv dir count f z ≡ length_by (rules' z) z (most f z)
  unfolding length_from
  from_second f z = refl

  from-same : (f g : ℕ → ℕ) (z : ℕ) → rules z ≡ rules' z → ((k : ℕ) → into_at rows cols dir z k ≡ true →
      f (neighbour rows cols z k) ≡ g (neighbour rows cols z k))
      → length_from rows cols side rules lv dir count f z ≡ length_from rows cols side rules' lv dir count g z
  from-same f g z e h =
      from-rules f z e
      ∙ ap (length_by (rules' z) z) (greatest-ext 8 (λ k. when (into_at rows cols dir z k) (brings f z k))
      (λ k. when (into_at rows cols dir z k) (brings g z k)) (λ k l. same k))
      ∙ sym (from_second g z)
    where
      same : (k : ℕ) → when (into_at rows cols dir z k) (brings f z k) ≡ when (into_at rows cols dir z k) (brings g z k)
      same k = when-ext (into_at rows cols dir z k) (brings f z k) (brings g z k)
          (λ i. ap (brought_to rows cols side (rules' z) lv dir z (neighbour rows cols z k)) (h k i))

  pub length-same : (m z : ℕ) → SameInto z → length_in rows cols side rules lv dir count m z ≡ length_in rows cols side rules' lv dir count m z
  unfolding length_in
  length-same zero z s = from-same (λ y. 0) (λ y. 0) z s.0 (λ k i. refl)
  length-same (suc m) z s =
      from-same (length_in rows cols side rules lv dir count m) (length_in rows cols side rules' lv dir count m) z s.0
      (λ k i. length-same m (neighbour rows cols z k) (same-inflow z k i s))

-- If one farm changes its settings from one accepted set to another, the length and LS of every cell of the other farm stay the same, unless a cell of
-- the first farm lies on a trail into that cell.
module _ (rows cols side : ℕ) (lv dir count marks : List ℕ) (trails : (x : ℕ) → flows_at rows cols dir x ≡ true → Trail rows cols dir x)
    (changed : ℕ) (rules rules' : ℕ → Rules) (others : (x : ℕ) → (farm_at marks x ≡ changed → ⊥) → rules x ≡ rules' x)
    (z : ℕ) (cell : z < rows * cols) (other : farm_at marks z ≡ changed → ⊥)
    (apart : (y : ℕ) → farm_at marks y ≡ changed → OnTrailInto rows cols dir y z → ⊥) where
  abbrev lengths : List ℕ
  lengths = lengths_of rows cols side rules lv dir count

  abbrev lengths' : List ℕ
  lengths' = lengths_of rows cols side rules' lv dir count

  pub length-apart : get_or (lengths_of rows cols side rules lv dir count) z 0 ≡ get_or (lengths_of rows cols side rules' lv dir count) z 0
  unfolding lengths_of
  length-apart =
      get_or-tab (rows * cols) (length_in rows cols side rules lv dir count (rows * cols)) 0 z cell
      ∙ length-same rows cols side lv dir count rules rules' trails (rows * cols) z (others z other, λ y o. others y (λ e. apart y e o))
      ∙ sym (get_or-tab (rows * cols) (length_in rows cols side rules' lv dir count (rows * cols)) 0 z cell)

  pub factor-apart :
      get_or (factors_of rows cols side rules lv dir (lengths_of rows cols side rules lv dir count)) z 0
      ≡ get_or (factors_of rows cols side rules' lv dir (lengths_of rows cols side rules' lv dir count)) z 0
  unfolding factors_of factor_at
  factor-apart =
      get_or-tab (rows * cols) (λ x. factor_at rows cols side (rules x).formula lv dir lengths x) 0 z cell
      ∙ ap₂ (λ (r : Rules) (n : ℕ). cond (mapped_at rows cols dir z) (factor_of r.formula side (steepness_at rows cols lv dir z) n) no_data_factor)
      (others z other) length-apart
      ∙ sym (get_or-tab (rows * cols) (λ x. factor_at rows cols side (rules' x).formula lv dir lengths' x) 0 z cell)

-- ---- two accepted calls over one ground

-- what an accepted call leaves, and answers
module _ (rows cols side : ℕ) (farms : Farms) (source : Source) (elevation : List ℤ) (g : Grids) (e : judged rows cols side farms source elevation g ≡ passed) where
  abbrev dir : List ℕ
  dir = directions_by source rows cols elevation g.direction

  left_is : after rows cols side farms source elevation g ≡ map_of rows cols side (rules_in farms) elevation (directions_by source rows cols elevation g.direction)
  unfolding after grids_of
  left_is = ap (grids_of rows cols side farms elevation dir g) e

  answer-is : answer rows cols side farms source elevation g ≡ answer_of rows cols elevation (directions_by source rows cols elevation g.direction) passed
  unfolding answer
  answer-is = ap (answer_of rows cols elevation dir) e

  directed : Directed rows cols (directions_by source rows cols elevation g.direction)
  directed = accepted-directed rows cols source elevation (lent_on g)
      (sym (first_passes rows cols side farms elevation g (first-of rows cols side farms elevation g source e) source) ∙ e)

module _ (rows cols side : ℕ) (source : Source) (elevation : List ℤ) (g g' : Grids)
    (same : directions_by source rows cols elevation g.direction ≡ directions_by source rows cols elevation g'.direction) where
  -- Filled heights, directions, counts and the longest trail do not depend on anybody's settings.
  pub same-water : (farms farms' : Farms) → judged rows cols side farms source elevation g ≡ passed → judged rows cols side farms' source elevation g' ≡ passed →
      let a = after rows cols side farms source elevation g in
      let b = after rows cols side farms' source elevation g' in
      (a.filled ≡ b.filled) × (a.direction ≡ b.direction) × (a.count ≡ b.count)
      × (answer rows cols side farms source elevation g ≡ answer rows cols side farms' source elevation g')
  unfolding map_of
  same-water farms farms' e f =
      let p = left_is rows cols side farms source elevation g e in
      let q = left_is rows cols side farms' source elevation g' f in (
        ap (λ (h : Grids). h.filled) p ∙ sym (ap (λ (h : Grids). h.filled) q),
        ap (λ (h : Grids). h.direction) p ∙ same ∙ sym (ap (λ (h : Grids). h.direction) q),
        ap (λ (h : Grids). h.count) p ∙ ap (counts_of rows cols) same ∙ sym (ap (λ (h : Grids). h.count) q),
        answer-is rows cols side farms source elevation g e ∙ ap (λ (l : List ℕ). answer_of rows cols elevation l passed) same
            ∙ sym (answer-is rows cols side farms' source elevation g' f),
      )

  module _ (marks : List ℕ) (z : ℕ) (cell : z < rows * cols) where
    -- the farm that changes its settings, and any accepted settings before and after
    stays : (changed : ℕ) (farms farms' : Farms) → judged rows cols side farms source elevation g ≡ passed →
        judged rows cols side farms' source elevation g' ≡ passed →
        ((x : ℕ) → (farm_at marks x ≡ changed → ⊥) → rules_in farms x ≡ rules_in farms' x) → (farm_at marks z ≡ changed → ⊥) →
        ((y : ℕ) → farm_at marks y ≡ changed → OnTrailInto rows cols (directions_by source rows cols elevation g.direction) y z → ⊥) →
        Same (after rows cols side farms source elevation g) (after rows cols side farms' source elevation g') z
    unfolding map_of
    stays changed farms farms' e f others other apart =
        let d = directions_by source rows cols elevation g.direction in
        let lv = filled_levels rows cols elevation in
        let p = left_is rows cols side farms source elevation g e in
        let q = left_is rows cols side farms' source elevation g' f ∙ ap (map_of rows cols side (rules_in farms') elevation) (sym same) in
        let trails = trail-there (directed rows cols side farms source elevation g e) in
        record {
          length-same = ap (λ (h : Grids). get_or h.lengths z 0) p
              ∙ length-apart rows cols side lv d (counts_of rows cols d) marks trails changed (rules_in farms) (rules_in farms') others z cell other apart
              ∙ sym (ap (λ (h : Grids). get_or h.lengths z 0) q);
          factor-same = ap (λ (h : Grids). get_or h.factors z 0) p
              ∙ factor-apart rows cols side lv d (counts_of rows cols d) marks trails changed (rules_in farms) (rules_in farms') others z cell other apart
              ∙ sym (ap (λ (h : Grids). get_or h.factors z 0) q);
        }

    -- farm 0 changes its settings: the cells of farm 1 that no trail from farm 0 reaches
    pub second-stays : (s s' t : Settings) → judged rows cols side (two s t marks) source elevation g ≡ passed →
        judged rows cols side (two s' t marks) source elevation g' ≡ passed →
        farm_at marks z ≡ 1 → ((y : ℕ) → farm_at marks y ≡ 0 → OnTrailInto rows cols (after rows cols side (two s t marks) source elevation g).direction y z → ⊥) →
        Same (after rows cols side (two s t marks) source elevation g) (after rows cols side (two s' t marks) source elevation g') z
    unfolding rules_in map_of
    second-stays s s' t e f m apart =
        let p = left_is rows cols side (two s t marks) source elevation g e in
        stays 0 (two s t marks) (two s' t marks) e f (λ x o. rw (ne_eqb (farm_at marks x) 0 o)) (λ o. omega arith)
        (λ y o i. apart y o (subst (λ (l : List ℕ). OnTrailInto rows cols l y z) (sym (ap (λ (h : Grids). h.direction) p)) i))

    -- and the other way round
    pub first-stays : (s t t' : Settings) → judged rows cols side (two s t marks) source elevation g ≡ passed →
        judged rows cols side (two s t' marks) source elevation g' ≡ passed →
        farm_at marks z ≡ 0 → ((y : ℕ) → farm_at marks y ≡ 1 → OnTrailInto rows cols (after rows cols side (two s t marks) source elevation g).direction y z → ⊥) →
        Same (after rows cols side (two s t marks) source elevation g) (after rows cols side (two s t' marks) source elevation g') z
    unfolding rules_in map_of
    first-stays s t t' e f m apart =
        let p = left_is rows cols side (two s t marks) source elevation g e in
        let k = first-marked rows cols side s t marks elevation g (first-of rows cols side (two s t marks) elevation g source e) in
        stays 1 (two s t marks) (two s t' marks) e f
        (λ x o. let n : farm_at marks x ≡ 0 = zero_of (farm_at marks x) (k.few x) o in rw (eq-eqb (farm_at marks x) 0 n)) (λ o. omega arith)
        (λ y o i. apart y o (subst (λ (l : List ℕ). OnTrailInto rows cols l y z) (sym (ap (λ (h : Grids). h.direction) p)) i))
      where
        zero_of : (n : ℕ) → n < 2 → (n ≡ 1 → ⊥) → n ≡ 0
        zero_of zero h o = refl
        zero_of (suc zero) h o = absurd (o refl)
        zero_of (suc (suc n)) h o = absurd (omega arith)
