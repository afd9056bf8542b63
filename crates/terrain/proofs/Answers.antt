-- The tests of terrain's call: what each decides, what an accepted ground and accepted directions are, and the promise from the answer and the grids. Assumes nothing.
use Rattle.std.proofs.Common.{◌≡◌, ℕ, ◌*◌, Bool, true, false, cond, not, ◌&&◌, ltb, List, [], ◌∷◌, length, get_or, replicate, ℤ, pos, Some, None, Result, Err, sym, refl, ap, ◌∙◌, subst, true≢false, arith}
use Rattle.laws.specs.Tests.{Test, passed, failed, verdict}
use Rattle.laws.proofs.Lists.{get_or_any}
use Rattle.laws.proofs.Verdicts.{verdict-none, verdict-next, verdict-stops, verdict-passed, verdict-parts, verdict-before, verdict-after, OfNumber, test-number, verdict-number}
use Rattle.text.specs.Ranges.{size_accepted, first_bad, bad_cell, all_long, size_test, length_test, height_test}
use Rattle.text.proofs.Accepted.{size_is, area_small, size-passed, size-passes, rows-fail, columns-fail, length-passed, lengths-pass, lengths-fail, height-passed, height-passes, height-fails, bad-some, bad-none}
use Rattle.terrain.specs.Cells.{no_data, Fine}
use Rattle.terrain.specs.InnerCells.{Ready}
use Rattle.terrain.specs.Filled.{filled_levels}
use Rattle.terrain.specs.Given.{first_broken, first_ring, code_test, ring_test}
use Rattle.terrain.specs.InnerTrail.{Directed}
use Rattle.terrain.specs.InnerGiven.{Keeping}
use Rattle.terrain.specs.Drainage.{Drainage}
use Rattle.terrain.specs.Answers.{Grids, lent, places_of, ground_tests, ground_judged, source_tests, tests, judged, ground_valids, directions_by, Mapped, leaves_zeros, refused_grids, After, answer_of, answer, accepts, valid_in}
use Rattle.text.specs.declared.Refusal.{Refusal}
use Rattle.text.specs.Faults.{number_of}
use Rattle.text.specs.declared.faults.Fault.{Fault}
use Rattle.text.proofs.FaultNumbers.{back-fault}
use Rattle.terrain.specs.declared.Summary.{Summary}
use Rattle.terrain.specs.declared.Source.{Source}
use Rattle.terrain.specs.declared.Source.TheVariants.{Own, Given}
use Rattle.terrain.proofs.Neighbours.{accepted-fine}
use Rattle.terrain.proofs.Filling.{filled-long}
use Rattle.terrain.proofs.Keeping.{code-passed, ring-passed}
use Rattle.terrain.proofs.Owning.{own-levels, own-keeping, own-directed}
use Rattle.terrain.proofs.Drainage.{drainage}

-- each lent grid has n places
pub record Room (n : ℕ) (g : Grids) : Type 0 where
  pub filled-long : length g.filled ≡ n
  pub direction-long : length g.direction ≡ n
  pub count_long : length g.count ≡ n
  pub falls-long : length g.falls ≡ n
  pub workspace-long : length g.workspace ≡ n

-- a refusal that leaves the workspace as it was, and one that leaves zeros there
abbrev pub Early : ℕ → Type 0
Early number = leaves_zeros number ≡ false

abbrev pub Late : ℕ → Type 0
Late number = leaves_zeros number ≡ true

module _ (rows cols : ℕ) (elevation : List ℤ) (g : Grids) where
  abbrev size : Test
  size = size_test rows cols

  abbrev long : Test
  long = length_test (rows * cols) (places_of elevation g)

  abbrev heights : Test
  heights = height_test (rows * cols) elevation

  -- ---- the cases in their order, as the code tests them

  pub judged-rows : size_accepted rows ≡ false → ground_judged rows cols elevation g ≡ failed 1 0
  unfolding ground_judged ground_tests
  judged-rows e = verdict-stops (long ∷ heights ∷ []) (rows-fail rows cols e)

  pub judged-columns : size_accepted cols ≡ false → ground_judged rows cols elevation g ≡ failed 1 0
  unfolding ground_judged ground_tests
  judged-columns e = verdict-stops (long ∷ heights ∷ []) (columns-fail rows cols e)

  module _ (r : size_accepted rows ≡ true) (c : size_accepted cols ≡ true) where
    pub judged-long : all_long (rows * cols) (places_of elevation g) ≡ false → ground_judged rows cols elevation g ≡ failed 2 0
    unfolding ground_judged ground_tests
    judged-long e = verdict-next (long ∷ heights ∷ []) (size-passes rows cols r c) ∙ verdict-stops (heights ∷ []) (lengths-fail (rows * cols) (places_of elevation g) e)

    module _ (l : all_long (rows * cols) (places_of elevation g) ≡ true) where
      rest : ground_judged rows cols elevation g ≡ verdict (heights ∷ [])
      unfolding ground_judged ground_tests
      rest = verdict-next (long ∷ heights ∷ []) (size-passes rows cols r c) ∙ verdict-next (heights ∷ []) (lengths-pass (rows * cols) (places_of elevation g) l)

      many : length elevation ≡ rows * cols
      many = (length-passed (rows * cols) _ _ (lengths-pass (rows * cols) (places_of elevation g) l)).0

      pub judged-height : {p : ℕ} → Some p ≡ bad_cell (length elevation) elevation → ground_judged rows cols elevation g ≡ failed 5 p
      judged-height {p} b =
          let w = bad-some (rows * cols) elevation (subst (λ (n : ℕ). Some p ≡ bad_cell n elevation) many b) in
          rest ∙ verdict-stops [] (height-fails (rows * cols) elevation (omega (arith, w.0, w.1))) ∙ ap (failed 5) (sym w.0)

      pub judged-passes : None ≡ bad_cell (length elevation) elevation → ground_judged rows cols elevation g ≡ passed
      judged-passes b =
          let h = bad-none (rows * cols) elevation (subst (λ (n : ℕ). None ≡ bad_cell n elevation) many b) in
          rest ∙ verdict-next [] (height-passes (rows * cols) elevation h) ∙ verdict-none

  -- ---- an accepted call

  module _ (e : ground_judged rows cols elevation g ≡ passed) where
    passed-size : (size ≡ passed) × (verdict (long ∷ heights ∷ []) ≡ passed)
    unfolding ground_judged ground_tests
    passed-size = verdict-passed size (long ∷ heights ∷ []) e

    passed-long : (long ≡ passed) × (verdict (heights ∷ []) ≡ passed)
    passed-long = verdict-passed long (heights ∷ []) passed-size.1

    passed-heights : (heights ≡ passed) × (verdict [] ≡ passed)
    passed-heights = verdict-passed heights [] passed-long.1

    pub passed-ready : Ready rows cols elevation
    passed-ready =
        let s = size-passed rows cols passed-size.0 in
        let r = size_is rows s.0 in
        let c = size_is cols s.1 in
        let l = (length-passed (rows * cols) _ _ passed-long.0).0 in
        record {
          rows-small = r.1;
          cols-small = c.1;
          cols-some = omega (arith, c.0);
          small = area_small rows cols r.1 c.1;
          long = l;
          fine = (λ x h. subst Fine (get_or_any elevation x no_data (pos 0) h) (accepted-fine (get_or elevation x no_data) (height-passed (rows * cols) elevation passed-heights.0 x (omega (arith, l)))));
        }

    pub passed-room : Room (rows * cols) g
    passed-room =
        let a = length-passed (rows * cols) _ _ passed-long.0 in
        let b = length-passed (rows * cols) _ _ a.1 in
        let c = length-passed (rows * cols) _ _ b.1 in
        let d = length-passed (rows * cols) _ _ c.1 in
        let f = length-passed (rows * cols) _ _ d.1 in
        let h = length-passed (rows * cols) _ _ f.1 in
        record { filled-long = b.0; direction-long = c.0; count_long = d.0; falls-long = f.0; workspace-long = h.0 }

  -- their refusals have the numbers 1, 2 and 5
  pub ground-number : OfNumber Early (ground_judged rows cols elevation g)
  unfolding ground_judged ground_tests verdict size_test length_test height_test
  ground-number =
      verdict-number Early size (long ∷ heights ∷ []) (test-number Early (size_accepted rows && size_accepted cols) 1 0 refl)
      (verdict-number Early long (heights ∷ []) (test-number Early (all_long (rows * cols) (places_of elevation g)) 2 0 refl)
      (verdict-number Early heights [] (test-number Early (not (ltb (first_bad (rows * cols) elevation) (rows * cols))) 5 (first_bad (rows * cols) elevation) refl) tt))

-- ---- the directions of an accepted call

-- directions that are accepted over the filled levels of a ground
pub record Chosen (rows cols : ℕ) (elevation : List ℤ) (dir : List ℕ) : Type 0 where
  pub keeping : Keeping rows cols (filled_levels rows cols elevation) dir
  pub directed : Directed rows cols dir

module _ (rows cols : ℕ) (elevation : List ℤ) (given : List ℕ) where
  abbrev lv : List ℕ
  lv = filled_levels rows cols elevation

  pub source-chosen : (source : Source) → Ready rows cols elevation → length given ≡ rows * cols → verdict (source_tests source rows cols (filled_levels rows cols elevation) given) ≡ passed → Chosen rows cols elevation (directions_by source rows cols elevation given)
  source-chosen Own ready long e = record { keeping = own-keeping rows cols elevation ready; directed = own-directed rows cols elevation ready }
  source-chosen Given ready long e =
      let w = verdict-passed (code_test rows cols lv given) (ring_test rows cols given ∷ []) e in
      let k = code-passed (own-levels rows cols elevation ready) long w.0 in
      record { keeping = k; directed = ring-passed k.drawn (verdict-passed (ring_test rows cols given) [] w.1).0 }

  -- their refusals have the numbers 17 and 18
  source-number : (source : Source) → OfNumber Late (verdict (source_tests source rows cols (filled_levels rows cols elevation) given))
  unfolding verdict code_test ring_test
  source-number Own = tt
  source-number Given =
      verdict-number Late (code_test rows cols lv given) (ring_test rows cols given ∷ [])
      (test-number Late (not (ltb (first_broken rows cols lv given) (rows * cols))) 17 (first_broken rows cols lv given) refl)
      (verdict-number Late (ring_test rows cols given) [] (test-number Late (not (ltb (first_ring rows cols given) (rows * cols))) 18 (first_ring rows cols given) refl) tt)

-- ---- the whole promise, from the answer and the grids

module _ (rows cols : ℕ) (source : Source) (elevation : List ℤ) (g : Grids) where
  abbrev dir : List ℕ
  dir = directions_by source rows cols elevation g.direction

  abbrev later : List Test
  later = source_tests source rows cols (filled_levels rows cols elevation) g.direction

  -- the grids with zeros in the workspace
  abbrev pub cleared : Grids
  cleared = lent g.filled g.direction g.count g.falls (replicate (length g.workspace) 0)

  abbrev pub Promised : Result Summary Refusal → Grids → Type 0
  Promised a h =
      (a ≡ answer rows cols source elevation g)
      × (After rows cols elevation (directions_by source rows cols elevation g.direction) g h (judged rows cols source elevation g)
      × (accepts a ≡ true → Drainage rows cols elevation h.filled h.direction h.count (valid_in a)))

  -- the ground's tests decide, or leave it to those of the directions
  pub judged-before : {n p : ℕ} → ground_judged rows cols elevation g ≡ failed n p → judged rows cols source elevation g ≡ failed n p
  unfolding judged tests ground_judged
  judged-before e = verdict-before (ground_tests rows cols elevation g) later e

  pub judged-after : ground_judged rows cols elevation g ≡ passed → judged rows cols source elevation g ≡ verdict (source_tests source rows cols (filled_levels rows cols elevation) g.direction)
  unfolding judged tests ground_judged
  judged-after e = verdict-after (ground_tests rows cols elevation g) later e

  -- an accepted call: its ground, and the directions of the map
  module _ (e : judged rows cols source elevation g ≡ passed) where
    pub passed-parts : (ground_judged rows cols elevation g ≡ passed) × (verdict (source_tests source rows cols (filled_levels rows cols elevation) g.direction) ≡ passed)
    unfolding judged tests ground_judged
    passed-parts = verdict-parts (ground_tests rows cols elevation g) later e

    pub accepted-ready : Ready rows cols elevation
    accepted-ready = passed-ready rows cols elevation g passed-parts.0

    pub accepted-chosen : Chosen rows cols elevation (directions_by source rows cols elevation g.direction)
    accepted-chosen = source-chosen rows cols elevation g.direction source accepted-ready (passed-room rows cols elevation g passed-parts.0).direction-long passed-parts.1

    pub accepted-directed : Directed rows cols (directions_by source rows cols elevation g.direction)
    accepted-directed = accepted-chosen.directed

  -- what the code has after its tests: an accepted ground, grids of its size, the levels of its filled heights, and accepted directions
  pub record Sound (level : List ℕ) : Type 0 where
    pub ready : Ready rows cols elevation
    pub room : Room (rows * cols) g
    pub levels : level ≡ filled_levels rows cols elevation
    pub chosen : Chosen rows cols elevation (directions_by source rows cols elevation g.direction)

  pub sound : {level : List ℕ} → passed ≡ ground_judged rows cols elevation g → passed ≡ verdict (source_tests source rows cols (filled_levels rows cols elevation) g.direction) → level ≡ filled_levels rows cols elevation → Sound level
  sound e j l =
      let ready = passed-ready rows cols elevation g (sym e) in
      let room = passed-room rows cols elevation g (sym e) in
      record { ready = ready; room = room; levels = l; chosen = source-chosen rows cols elevation g.direction source ready room.direction-long (sym j) }

  -- a refusal as the code makes it
  pub refused-is : (f : Refusal) → Err f ≡ answer_of rows cols elevation (directions_by source rows cols elevation g.direction) (failed (number_of f.fault) f.place)
  unfolding answer_of
  refused-is f = ap (λ (a : Fault). Err (record { fault = a; place = f.place })) (sym (back-fault f.fault))

  refuses-with : {a : Result Summary Refusal} {n p : ℕ} {h : Grids} → judged rows cols source elevation g ≡ failed n p → a ≡ answer_of rows cols elevation dir (failed n p) → h ≡ refused_grids n g → Promised a h
  unfolding answer answer_of
  refuses-with {a} {n} {p} {h} j e q = (e ∙ ap (answer_of rows cols elevation dir) (sym j), (subst (After rows cols elevation dir g h) (sym j) q, λ t. absurd (true≢false (sym t ∙ ap accepts e))))

  pub refuses : {a : Result Summary Refusal} {n p : ℕ} → failed n p ≡ ground_judged rows cols elevation g → a ≡ answer_of rows cols elevation (directions_by source rows cols elevation g.direction) (failed n p) → Promised a g
  refuses {a} {n} {p} j e =
      refuses-with (judged-before (sym j)) e (ap (λ (b : Bool). cond b cleared g) (sym (subst (OfNumber Early) (sym j) (ground-number rows cols elevation g))))

  module _ (e : ground_judged rows cols elevation g ≡ passed) where
    pub refuses-later : {a : Result Summary Refusal} {t : Test} {n p : ℕ} {lv work : List ℕ} → t ≡ verdict (source_tests source rows cols (filled_levels rows cols elevation) g.direction) → t ≡ failed n p → lv ≡ filled_levels rows cols elevation → work ≡ replicate (length lv) 0 → a ≡ answer_of rows cols elevation (directions_by source rows cols elevation g.direction) (failed n p) → Promised a (lent g.filled g.direction g.count g.falls work)
    refuses-later {a} {t} {n} {p} {lv} {work} j f l w q =
        refuses-with (judged-after e ∙ sym j ∙ f) q
        (ap (λ (l : List ℕ). lent g.filled g.direction g.count g.falls l) zeros
        ∙ ap (λ (b : Bool). cond b cleared g) (sym (subst (OfNumber Late) (sym j ∙ f) (source-number rows cols elevation g.direction source))))
      where
        zeros : work ≡ replicate (length g.workspace) 0
        zeros =
            w ∙ ap (λ (m : ℕ). replicate m 0) (ap length l ∙ filled-long rows cols elevation (passed-ready rows cols elevation g e) ∙ sym (passed-room rows cols elevation g e).workspace-long)

    pub accepts-all : {a : Result Summary Refusal} {h : Grids} → passed ≡ verdict (source_tests source rows cols (filled_levels rows cols elevation) g.direction) → a ≡ answer_of rows cols elevation (directions_by source rows cols elevation g.direction) passed → Mapped rows cols elevation (directions_by source rows cols elevation g.direction) h → Promised a h
    unfolding answer answer_of
    accepts-all {a} {h} j q m =
        let t = judged-after e ∙ sym j in
        (q ∙ ap (answer_of rows cols elevation dir) (sym t), (subst (After rows cols elevation dir g h) (sym t) m, λ o. subst (Drainage rows cols elevation h.filled h.direction h.count) (sym (ap valid_in q)) drained))
      where
        drained : Drainage rows cols elevation h.filled h.direction h.count (ground_valids rows cols elevation)
        drained =
            let ready = passed-ready rows cols elevation g e in
            let c = source-chosen rows cols elevation g.direction source ready (passed-room rows cols elevation g e).direction-long (sym j) in
            rw (m.filled_is, m.direction-is, m.count-is) (drainage rows cols elevation dir ready c.keeping c.directed)
