-- The promise of the map call: from the judge's finding, the terrain layer's promise, and the pass along the order. Assumes nothing.
use mathlib.Core.Path.{◌≡◌, refl, sym, ap, ap₂, subst, ◌∙◌, fun_ext}
use mathlib.Core.List.{List}
use mathlib.Core.Bool.{Bool, true, false, cond, true≢false}
use Prim.Native.Nat.{ℕ, ◌*◌, ◌≤◌}
use native.Mathlib.Omega.{arith}
use lib.ListN.{length, replicate, take}
use lib.IntN.{ℤ}
use Rattle.laws.specs.Tests.{Test, passed, failed, verdict}
use Rattle.text.specs.Faults.{number_of, fault_of}
use Rattle.text.specs.declared.Refusal.{Refusal}
use Rattle.text.specs.declared.faults.Fault.{Fault}
use Rattle.text.proofs.FaultNumbers.{back-fault}
use Rattle.settings.specs.declared.Settings.{Settings}
use Rattle.settings.specs.declared.Rules.{Rules}
use Rattle.settings.specs.Settings.{rules_of}
use Rattle.terrain.specs.InnerCells.{Ready}
use Rattle.terrain.specs.Filled.{filled_levels}
use Rattle.terrain.specs.Trail.{counts_of, longest_of}
use Rattle.terrain.specs.Falls.{falls_of}
use Rattle.terrain.specs.Drainage.{Drainage}
use Rattle.terrain.specs.Answers.{Mapped, After, ground_valids, directions_by, leaves_zeros}
use Rattle.terrain.specs.declared.Source.{Source}
use Rattle.terrain.specs.Answers as terrain
use Rattle.terrain.specs.declared.Summary.{Summary}
use Rattle.std.specs.Borrow.{Bor}
use Rattle.std.proofs.lemmas.List.{length-take-le}
use Rattle.std.proofs.Common.{Some, None, Result, Ok, Err}
use Rattle.terrain.proofs.Public.{accepted-ready, accepted-directed, filled-small, counts-long, downhill-taken}
use Rattle.factor.specs.Farms.{Farms, one, two, farm_at, Marked, of_farm, rules_in}
use Rattle.factor.specs.Length.{lengths_of}
use Rattle.factor.specs.Grid.{factors_of}
use Rattle.factor.specs.Answers.{Grids, lent, judged, map_of, answer_of, refused_grids, grids_of, answer, after, first_tests, Judges, JudgesFarms}
use Rattle.factor.specs.declared.tests.FarmRules.{FarmRules}
use Rattle.factor.specs.Inner.{Passing, Promised}
use Rattle.factor.specs.InnerPass.{farm_by, Naming, Measuring}
use Rattle.factor.proofs.Judging.{lent_on, judged-row, first-fails, first-kept, first_passes, first-side, first-lengths}

-- ---- whose rules a cell has

-- without marks all cells have farm 0's rules
pub one-rules : (settings : Settings) {rules : Rules} → rules ≡ rules_of settings →
    (λ (x : ℕ). of_farm rules rules (farm_by None x)) ≡ rules_in (one settings)
unfolding rules_in
one-rules settings e = fun_ext (λ x. e)

pub one-naming : (n : ℕ) → Naming n None
one-naming n x h = tt

pub one-passing : {rows cols side : ℕ} {settings : Settings} {elevation : List ℤ} {g : Grids} {rules : Rules} →
    Judges rows cols side settings elevation g (Ok rules) →
    Passing rows cols side (one settings) (λ x. of_farm rules rules (farm_by None x)) elevation g
one-passing {settings = settings} {rules = rules} j = record { passes = sym j.verdict-is; rules-are = one-rules settings (j.rules-are rules refl) }

-- each cell has a mark of its own
pub two-rules : (first second : Settings) (marks : Bor (List ℕ)) {f s : Rules} → (f ≡ rules_of first) × (s ≡ rules_of second) →
    (λ (x : ℕ). of_farm f s (farm_by (Some marks) x)) ≡ rules_in (two first second marks.now)
unfolding rules_in
two-rules first second marks e = fun_ext (λ x. ap₂ (λ (f s : Rules). of_farm f s (farm_at marks.now x)) e.0 e.1)

pub two-passing : {rows cols side : ℕ} {first second : Settings} (marks : Bor (List ℕ)) {elevation : List ℤ} {g : Grids} {rules : FarmRules} →
    JudgesFarms rows cols side first second marks.now elevation g (Ok rules) →
    Passing rows cols side (two first second marks.now) (λ x. of_farm rules.first rules.second (farm_by (Some marks) x)) elevation g
two-passing {first = first} {second = second} marks {rules = rules} j =
    record { passes = sym j.verdict-is; rules-are = two-rules first second marks (j.rules-are rules refl) }

pub two-naming : {n : ℕ} (marks : Bor (List ℕ)) → Marked n marks.now → Naming n (Some marks)
two-naming marks m x l = omega (arith, m.long)

-- grids that are the same one by one
lent_same : {f f' : List ℤ} {d d' c c' l l' x x' w w' : List ℕ} → f ≡ f' → d ≡ d' → c ≡ c' → l ≡ l' → x ≡ x' → w ≡ w' →
    lent f d c l x w ≡ lent f' d' c' l' x' w'
lent_same p q r s t u = cc

-- the grids once the terrain layer has left its own as t, with these lengths, factors and workspace
abbrev returned : terrain.Grids → List ℕ → List ℕ → List ℕ → Grids
returned t lengths factors workspace = lent t.filled t.direction t.count lengths factors workspace

-- what the terrain layer tells by accepting
record Accepting (rows cols : ℕ) (source : Source) (elevation : List ℤ) (g t : terrain.Grids) (summary : Summary) : Type 0 where
  passes : terrain.judged rows cols source elevation g ≡ passed
  mapped : Mapped rows cols elevation (directions_by source rows cols elevation g.direction) t
  valid-is : summary.valid ≡ ground_valids rows cols elevation
  longest-is : summary.longest ≡ longest_of rows cols (directions_by source rows cols elevation g.direction)

-- what a refusal leaves to the terrain layer's grids and to these
left-same : (n : ℕ) (g : Grids) → returned (terrain.refused_grids n (lent_on g)) g.lengths (terrain.refused_grids n (lent_on g)).falls
    (terrain.refused_grids n (lent_on g)).workspace ≡ refused_grids n g
left-same n g = go (leaves_zeros n)
  where
    go : (b : Bool) →
        (let t = cond b (terrain.lent g.filled g.direction g.count g.factors (replicate (length g.workspace) 0)) (lent_on g) in returned t
        g.lengths t.falls t.workspace)
        ≡ cond b (lent g.filled g.direction g.count g.lengths g.factors (replicate (length g.workspace) 0)) g
    go true = refl
    go false = refl

module _ (rows cols side : ℕ) (farms : Farms) (source : Source) (elevation : List ℤ) (g : Grids) where
  -- the directions of the map
  abbrev dir : List ℕ
  dir = directions_by source rows cols elevation g.direction

  abbrev first : Test
  first = verdict (first_tests rows cols side farms elevation g)

  -- its promise
  abbrev Made : Result Summary Refusal → Grids → Type 0
  Made = Promised rows cols side farms source elevation g

  -- a refusal
  refuses : (f : Refusal) → judged rows cols side farms source elevation g ≡ failed (number_of f.fault) f.place →
      Made (Err f) (refused_grids (number_of f.fault) g)
  unfolding answer after answer_of grids_of
  refuses f j = (sym (ap (answer_of rows cols elevation dir) j ∙ back), (sym (ap (grids_of rows cols side farms elevation dir g) j), (none, (none, none))))
    where
      -- the fault of the test's number
      back : ◌≡◌ {A = Result Summary Refusal} (Err (record { fault = fault_of (number_of f.fault); place = f.place })) (Err f)
      back = ap (λ (a : Fault). let r : Result Summary Refusal = Err (record { fault = a; place = f.place }) in r) (back-fault f.fault)

      -- it is no acceptance
      none : {P : Type 0} → false ≡ true → P
      none e = absurd (true≢false (sym e))

  -- by one of the first tests
  pub first-refuses : (f : Refusal) → failed (number_of f.fault) f.place ≡ verdict (first_tests rows cols side farms elevation g) → Made (Err f) g
  first-refuses f e =
      subst (Made (Err f)) (first-kept rows cols side farms elevation g (sym e))
      (refuses f (first-fails rows cols side farms elevation g source (sym e)))

  -- ---- the terrain layer is called

  module _ (e : first ≡ passed) where
    abbrev heights : Test
    heights = terrain.judged rows cols source elevation (lent_on g)

    -- it refuses, and leaves its grids t
    abbrev Left : Refusal → terrain.Grids → Type 0
    Left f t = (t ≡ terrain.refused_grids (number_of f.fault) (lent_on g)) × (judged rows cols side farms source elevation g ≡ failed (number_of f.fault) f.place)

    terrain-refuses : (f : Refusal) {t : terrain.Grids} → Err f ≡ terrain.answer rows cols source elevation (lent_on g) →
        After rows cols elevation dir (lent_on g) t heights → Left f t
    unfolding terrain.answer terrain.answer_of
    terrain-refuses f {t} q a = go heights refl q a
      where
        go : (v : Test) → heights ≡ v → Err f ≡ terrain.answer_of rows cols elevation dir v → After rows cols elevation dir (lent_on g) t v → Left f t
        go passed j q a = absurd (true≢false (sym (ap terrain.accepts q)))
        go (failed number place) j q a =
            let judge = first_passes rows cols side farms elevation g e source ∙ j in
            let r : f ≡ record { fault = fault_of number; place = place } = cc in
            let n : number_of f.fault ≡ number = ap (λ (r : Refusal). number_of r.fault) r ∙ judged-row rows cols side farms elevation g source judge in
            (a ∙ ap (λ (n : ℕ). terrain.refused_grids n (lent_on g)) (sym n), judge ∙ ap₂ failed (sym n) (sym (ap (λ (r : Refusal). r.place) r)))

    pub terrain-refused : (f : Refusal) {t : terrain.Grids} → Err f ≡ terrain.answer rows cols source elevation (lent_on g) →
        After rows cols elevation (directions_by source rows cols elevation g.direction) (lent_on g) t heights →
        Made (Err f) (returned t g.lengths t.falls t.workspace)
    terrain-refused f {t} q a =
        let w = terrain-refuses f q a in
        subst (λ (u : terrain.Grids). Made (Err f) (returned u g.lengths u.falls u.workspace)) (sym w.0)
        (subst (Made (Err f)) (sym (left-same (number_of f.fault) g)) (refuses f w.1))

    -- it accepts, and gives its grids
    terrain-accepts : {summary : Summary} {t : terrain.Grids} → Ok summary ≡ terrain.answer rows cols source elevation (lent_on g) →
        After rows cols elevation dir (lent_on g) t heights → Accepting rows cols source elevation (lent_on g) t summary
    unfolding terrain.answer terrain.answer_of
    terrain-accepts {summary} {t} q a = go heights refl q a
      where
        go : (v : Test) → heights ≡ v → Ok summary ≡ terrain.answer_of rows cols elevation dir v → After rows cols elevation dir (lent_on g) t v →
            Accepting rows cols source elevation (lent_on g) t summary
        go passed j q a =
            let s : summary ≡ record { valid = ground_valids rows cols elevation; longest = longest_of rows cols dir } = cc in
            record { passes = j; mapped = a; valid-is = ap (λ (s : Summary). s.valid) s; longest-is = ap (λ (s : Summary). s.longest) s }
        go (failed number place) j q a = absurd (true≢false (ap terrain.accepts q))

    module _ (t : terrain.Grids) {summary : Summary} (q : Ok summary ≡ terrain.answer rows cols source elevation (lent_on g))
        (a : After rows cols elevation (directions_by source rows cols elevation g.direction) (lent_on g) t heights) where
      abbrev found : Accepting rows cols source elevation (lent_on g) t summary
      found = terrain-accepts q a

      abbrev lv : List ℕ
      lv = filled_levels rows cols elevation

      ready : Ready rows cols elevation
      ready = accepted-ready rows cols source elevation (lent_on g) found.passes

      -- the order has room in the workspace, and so many places
      pub accepted-room : (summary.valid ≤ length t.workspace) × (summary.valid ≡ length (take summary.valid t.workspace))
      accepted-room =
          let h : summary.valid ≤ length t.workspace = omega (arith, found.mapped.order.room, found.valid-is) in
          (h, sym (length-take-le summary.valid t.workspace h))

      -- what the pass assumes
      pub accepted-measuring : Measuring rows cols side (filled_levels rows cols elevation) t.direction t.count (take summary.valid t.workspace) g.lengths t.falls
      accepted-measuring =
          let m = found.mapped in
          let s = first-side rows cols side farms elevation g e in
          record {
            directed = rw m.direction-is (accepted-directed rows cols source elevation (lent_on g) found.passes);
            capped = (λ x. omega (arith, filled-small rows cols elevation ready x));
            side-some = s.0;
            side-small = s.1;
            count_long = ap length m.count-is ∙ counts-long rows cols dir;
            order_is = downhill-taken (rw (m.direction-is, found.valid-is) m.order);
            lengths-long = first-lengths rows cols side farms elevation g e;
            falls-are = m.falls-are ∙ ap (falls_of rows cols lv) (sym m.direction-is);
          }

      -- and the whole promise
      pub accepted-promised : {rules : ℕ → Rules} {lengths factors workspace : List ℕ} → rules ≡ rules_in farms →
          (lengths ≡ lengths_of rows cols side rules lv t.direction t.count) × (factors ≡ factors_of rows cols side rules lv t.direction lengths) →
          workspace ≡ replicate (rows * cols) 0 → Drainage rows cols elevation t.filled t.direction t.count summary.valid →
          Made (Ok summary) (returned t lengths factors workspace)
      unfolding answer after answer_of grids_of map_of
      accepted-promised {rules} {lengths} {factors} {workspace} r d w n =
          let j = first_passes rows cols side farms elevation g e source ∙ found.passes in
          let answers = answer-is ∙ sym (ap (answer_of rows cols elevation dir) j) in
          let leaves = grids-are ∙ sym (ap (grids_of rows cols side farms elevation dir g) j) in
          (answers, (leaves, ((λ x. n.trails), ((λ x. n.totals), (λ x. n.surface)))))
        where
          answer-is : ◌≡◌ {A = Result Summary Refusal} (Ok summary) (Ok (record { valid = ground_valids rows cols elevation; longest = longest_of rows cols dir }))
          answer-is = ap₂ (λ (v l : ℕ). let r : Result Summary Refusal = Ok (record { valid = v; longest = l }) in r) found.valid-is found.longest-is

          count-is : t.count ≡ counts_of rows cols dir
          count-is = found.mapped.count-is

          direction-is : t.direction ≡ dir
          direction-is = found.mapped.direction-is

          lengths-are : lengths ≡ lengths_of rows cols side (rules_in farms) lv dir (counts_of rows cols dir)
          lengths-are = d.0 ∙ ap (λ (r : ℕ → Rules). lengths_of rows cols side r lv t.direction t.count) r
              ∙ ap₂ (lengths_of rows cols side (rules_in farms) lv) direction-is count-is

          factors-are : factors ≡ factors_of rows cols side (rules_in farms) lv dir (lengths_of rows cols side (rules_in farms) lv dir (counts_of rows cols dir))
          factors-are =
              d.1 ∙ ap (λ (r : ℕ → Rules). factors_of rows cols side r lv t.direction lengths) r
              ∙ ap₂ (factors_of rows cols side (rules_in farms) lv) direction-is lengths-are

          grids-are : returned t lengths factors workspace ≡ map_of rows cols side (rules_in farms) elevation dir
          grids-are = lent_same found.mapped.filled_is direction-is count-is lengths-are factors-are w
