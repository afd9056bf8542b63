-- The tests of the map call: what each of the first ones decides, what is left to the terrain layer after them, and that no refusal has number 0.
-- Assumes nothing.
use mathlib.Core.Path.{◌≡◌, refl, sym, ap, ap₂, subst, ◌∙◌}
use mathlib.Core.List.{List, [], ◌∷◌, ◌++◌}
use mathlib.Core.Bool.{Bool, true, false, not, cond, ◌&&◌}
use Prim.Native.Nat.{ℕ, ◌+◌, ◌*◌, ◌≤◌, ◌<◌}
use native.Mathlib.Omega.{arith}
use native.Mathlib.Decide.{dec_lt}
use lib.ListN.{length, get_or-eq_default}
use lib.IntN.{ℤ}
use lib.Dec.{ltb}
use borrow.Author.Tests.{eq-eqb, ltb-false, not-true}
use Rattle.laws.specs.Tests.{Test, passed, failed, verdict}
use Rattle.laws.proofs.First.{first-before, first-is, first-none}
use Rattle.laws.proofs.Tests.{two as either}
use Rattle.std.specs.List.{position, position_or_len}
use Rattle.std.proofs.lemmas.List.Quantifiers.{position-Some}
use Rattle.std.proofs.lemmas.List.Sums.{fails_before_first}
use Rattle.std.proofs.Common.{Option, Some, None, Result, Ok, Err, ◌⊎◌, inl, inr}
use Rattle.laws.proofs.Verdicts.{verdict-next, verdict-passed, verdict-parts, verdict-before, verdict-after, test-passed, Numbered, OfNumber, test-number, verdict-number}
use Rattle.text.specs.Ranges.{size_accepted, side_accepted, first_bad, all_long, size_test, length_test, side_test, height_test}
use Rattle.text.proofs.Accepted.{size-passed, area-few, AllLong, lengths-pass, lengths-passed, side-is, side-passed}
use Rattle.settings.specs.declared.Settings.{Settings}
use Rattle.settings.specs.declared.Rules.{Rules}
use Rattle.settings.specs.declared.Setting.{Setting as Bad}
use Rattle.settings.specs.Settings.{judged_of, place_of, settings_test, told as test_of}
use Rattle.terrain.specs.Answers.{Grids as TerrainGrids, lent as lent_terrain, places_of as terrain_places, ground_tests, tests as terrain_tests, judged as terrain_judged, source_tests, directions_by}
use Rattle.terrain.specs.Filled.{filled_levels}
use Rattle.terrain.specs.Given.{first_broken, first_ring, code_test, ring_test}
use Rattle.terrain.specs.declared.Source.{Source}
use Rattle.terrain.specs.declared.Source.TheVariants.{Own, Given}
use Rattle.factor.specs.Farms.{Farms, one, two, farm_at, Marked, mark_places, second_places, first_mark, mark_test, settings_tests, mark_tests, farm_tests}
use Rattle.factor.specs.Answers.{Grids, places_of, tests, judged, answer_of, answer, refused_grids, early_tests, first_tests, Judges, JudgesRest, told, accepts}
use Rattle.factor.specs.Inner.{places_with, settings_found, OfFarms, JudgesGround}
use Rattle.factor.proofs.Judgements.{rows-refused, columns-refused, long-refused, side-refused, farms-left, judges-refused, judges-settings, judges-sound, rest-settings, rest-marks, rest-sound, farms-settings}
use Rattle.text.specs.Faults.{number_of, fault_of}
use Rattle.text.proofs.FaultNumbers.{number-some as fault-some}
use Rattle.text.specs.declared.Refusal.{Refusal}
use Rattle.text.specs.declared.faults.Fault.TheVariants.{Size, Length, Side, Setting, Mark}

-- the grids that are lent on to the terrain layer: the grid of LS for its falls, and all but that of the lengths
abbrev pub lent_on : Grids → TerrainGrids
lent_on g = lent_terrain g.filled g.direction g.count g.factors g.workspace

-- lengths that are all n, one by one
all-long : (n : ℕ) (l : List ℕ) → AllLong n l → all_long n l ≡ true
unfolding all_long
all-long n [] w = refl
all-long n (a ∷ l) w = ap₂ ◌&&◌ (eq-eqb a n w.0) (all-long n l w.1)

-- an answer with number 0 is no refusal, whatever the tests were, if none of them refuses with 0
pub answer-some : (rows cols : ℕ) (elevation : List ℤ) (dir : List ℕ) (t : Test) → Numbered t → (told (answer_of rows cols elevation dir t)).number ≡ 0 →
    accepts (answer_of rows cols elevation dir t) ≡ true
unfolding answer_of
answer-some rows cols elevation dir passed n e = refl
answer-some rows cols elevation dir (failed number place) n e = absurd (fault-some (fault_of number) e)

-- ---- the number of a refusal

-- one list of tests after another
pub joined_number : (P : ℕ → Type 0) (l m : List Test) → OfNumber P (verdict l) → OfNumber P (verdict m) → OfNumber P (verdict (l ++ m))
unfolding verdict
joined_number P [] m h i = i
joined_number P (passed ∷ l) m h i = joined_number P l m h i
joined_number P (failed number place ∷ l) m h i = h

pub is-numbered : (t : Test) → OfNumber (λ n. 1 ≤ n) t → Numbered t
is-numbered passed h = tt
is-numbered (failed number place) h = h

-- ---- the tests of the farms

-- what the number of a refusal is: of 4, whatever its place, and of 19
setting-number : (P : ℕ → Type 0) → P 4 → (j : Result Rules Bad) → OfNumber P (test_of j)
setting-number P four (Ok rules) = tt
setting-number P four (Err bad) = four

second-number : (P : ℕ → Type 0) (t : Test) → OfNumber P t → OfNumber P (second_places t)
second-number P passed h = h
second-number P (failed number place) h = h

pub settings-number : (P : ℕ → Type 0) (farms : Farms) → P 4 → OfNumber P (verdict (settings_tests farms))
unfolding settings_test verdict
settings-number P (one s) four = verdict-number P (settings_test s) [] (setting-number P four (judged_of s)) tt
settings-number P (two s t marks) four =
    verdict-number P (settings_test s) (second_places (settings_test t) ∷ []) (setting-number P four (judged_of s))
    (verdict-number P (second_places (settings_test t)) [] (second-number P (settings_test t) (setting-number P four (judged_of t))) tt)

pub marks-number : (P : ℕ → Type 0) (n : ℕ) (farms : Farms) → P 19 → OfNumber P (verdict (mark_tests n farms))
unfolding mark_test verdict
marks-number P n (one s) last = tt
marks-number P n (two s t marks) last = verdict-number P (mark_test n marks) [] (test-number P (not (ltb (first_mark n marks) n)) 19 (first_mark n marks) last) tt

-- the lent grids are long if they and the marks are
pub lent-long : (n : ℕ) (farms : Farms) (l : List ℕ) → AllLong n (mark_places farms ++ l) → AllLong n l
lent-long n (one s) l w = w
lent-long n (two s t marks) l w = w.1

module _ (rows cols side : ℕ) (farms : Farms) (elevation : List ℤ) (g : Grids) where
  abbrev size : Test
  size = size_test rows cols

  abbrev long : Test
  long = length_test (rows * cols) (mark_places farms ++ places_of elevation g)

  abbrev sided : Test
  sided = side_test side

  abbrev chosen : List Test
  chosen = farm_tests (rows * cols) farms

  abbrev heights : Test
  heights = height_test (rows * cols) elevation

  -- the tests of the directions
  abbrev later : Source → List Test
  later source = source_tests source rows cols (filled_levels rows cols elevation) g.direction

  -- what the first tests decide
  abbrev pub first : Test
  first = verdict (first_tests rows cols side farms elevation g)

  -- ---- what is left to the terrain layer

  -- a failure of the first ones decides
  pub first-fails : (source : Source) {number place : ℕ} → first ≡ failed number place → judged rows cols side farms source elevation g ≡ failed number place
  unfolding judged tests first_tests early_tests
  first-fails source e = verdict-before (size ∷ long ∷ sided ∷ chosen) (heights ∷ later source) e

  -- all are passed if the call is accepted
  pub first-of : (source : Source) → judged rows cols side farms source elevation g ≡ passed → verdict (first_tests rows cols side farms elevation g) ≡ passed
  unfolding judged tests first_tests early_tests
  first-of source e = (verdict-parts (size ∷ long ∷ sided ∷ chosen) (heights ∷ later source) e).0

  module _ (e : first ≡ passed) where
    passed-size : (size ≡ passed) × (verdict (long ∷ sided ∷ chosen) ≡ passed)
    unfolding first_tests early_tests
    passed-size = verdict-passed size (long ∷ sided ∷ chosen) e

    passed-long : (long ≡ passed) × (verdict (sided ∷ chosen) ≡ passed)
    passed-long = verdict-passed long (sided ∷ chosen) passed-size.1

    passed-side : (sided ≡ passed) × (verdict chosen ≡ passed)
    passed-side = verdict-passed sided chosen passed-long.1

    -- no more cells than 1,024 by 1,024
    pub first-cells : rows * cols ≤ 1048576
    first-cells = let s = size-passed rows cols passed-size.0 in area-few rows cols s.0 s.1

    pub first-side : (1 ≤ side) × (side ≤ 100000)
    first-side = side-is side (side-passed side passed-side.0)

    pub first-farms : verdict (farm_tests (rows * cols) farms) ≡ passed
    first-farms = passed-side.1

    -- the marks and each lent slice have one place per cell
    pub all-places : AllLong (rows * cols) (mark_places farms ++ places_of elevation g)
    all-places = lengths-passed (rows * cols) (mark_places farms ++ places_of elevation g) passed-long.0

    places : AllLong (rows * cols) (places_of elevation g)
    places = lent-long (rows * cols) farms (places_of elevation g) all-places

    pub first-lengths : length g.lengths ≡ rows * cols
    first-lengths = places.1.1.1.1.0

    pub first-workspace : length g.workspace ≡ rows * cols
    first-workspace = places.1.1.1.1.1.1.0

    abbrev lent-on : List ℕ
    lent-on = terrain_places elevation (lent_on g)

    lent-places : AllLong (rows * cols) lent-on
    lent-places = (places.0, (places.1.0, (places.1.1.0, (places.1.1.1.0, places.1.1.1.1.1))))

    -- if they are passed, the terrain layer's tests decide
    pub first_passes : (source : Source) → judged rows cols side farms source elevation g ≡ terrain_judged rows cols source elevation (lent_on g)
    unfolding judged tests first_tests early_tests terrain_judged terrain_tests ground_tests
    first_passes source =
        let t = length_test (rows * cols) lent-on in
        let passes = lengths-pass (rows * cols) lent-on (all-long (rows * cols) lent-on lent-places) in
        verdict-after (size ∷ long ∷ sided ∷ chosen) (heights ∷ later source) e
        ∙ sym (verdict-next (t ∷ heights ∷ later source) passed-size.0 ∙ verdict-next (heights ∷ later source) passes)

  -- ---- the number of a refusal

  -- what holds of it, if it does for each of these numbers: those before 19, and all of the first
  pub early-number : (P : ℕ → Type 0) → P 1 → P 2 → P 3 → P 4 → OfNumber P (verdict (early_tests rows cols side farms elevation g))
  unfolding early_tests size_test length_test side_test
  early-number P a b c d =
      verdict-number P size (long ∷ sided ∷ settings_tests farms) (test-number P (size_accepted rows && size_accepted cols) 1 0 a)
      (verdict-number P long (sided ∷ settings_tests farms) (test-number P (all_long (rows * cols) (mark_places farms ++ places_of elevation g)) 2 0 b)
      (verdict-number P sided (settings_tests farms) (test-number P (side_accepted side) 3 0 c) (settings-number P farms d)))

  first-number : (P : ℕ → Type 0) → P 1 → P 2 → P 3 → P 4 → P 19 → OfNumber P first
  unfolding first_tests
  first-number P a b c d e =
      joined_number P (early_tests rows cols side farms elevation g) (mark_tests (rows * cols) farms) (early-number P a b c d) (marks-number P (rows * cols) farms e)

  pub later-number : (P : ℕ → Type 0) → P 5 → P 17 → P 18 → (source : Source) → OfNumber P
      (verdict (height_test (rows * cols) elevation ∷ source_tests source rows cols (filled_levels rows cols elevation) g.direction))
  unfolding verdict height_test code_test ring_test
  later-number P a b c source =
      verdict-number P heights (later source) (test-number P (not (ltb (first_bad (rows * cols) elevation) (rows * cols))) 5
      (first_bad (rows * cols) elevation) a) (go source)
    where
      go : (source : Source) → OfNumber P (verdict (later source))
      go Own = tt
      go Given =
          let lv = filled_levels rows cols elevation in
          let dir = g.direction in
          verdict-number P (code_test rows cols lv dir) (ring_test rows cols dir ∷ [])
          (test-number P (not (ltb (first_broken rows cols lv dir) (rows * cols))) 17 (first_broken rows cols lv dir) b)
          (verdict-number P (ring_test rows cols dir) [] (test-number P (not (ltb (first_ring rows cols dir) (rows * cols))) 18 (first_ring rows cols dir) c) tt)

  judged-number : (P : ℕ → Type 0) → P 1 → P 2 → P 3 → P 4 → P 19 → P 5 → P 17 → P 18 → (source : Source) →
      OfNumber P (judged rows cols side farms source elevation g)
  unfolding judged tests
  judged-number P a b c d e f h i source = joined_number P (first_tests rows cols side farms elevation g) (heights ∷ later source)
      (first-number P a b c d e) (later-number P f h i source)

  -- each number stands in the table
  pub judged-row : (source : Source) {number place : ℕ} → judged rows cols side farms source elevation g ≡ failed number place → number_of (fault_of number) ≡ number
  unfolding fault_of
  judged-row source e =
      subst (OfNumber (λ n. number_of (fault_of n) ≡ n)) e (judged-number (λ n. number_of (fault_of n) ≡ n) refl refl refl refl refl refl refl refl source)

  -- no number is 0, so an answer with number 0 is no refusal
  pub number-some : (source : Source) → (told (answer rows cols side farms source elevation g)).number ≡ 0 →
      accepts (answer rows cols side farms source elevation g) ≡ true
  unfolding answer
  number-some source =
      answer-some rows cols elevation (directions_by source rows cols elevation g.direction) (judged rows cols side farms source elevation g)
      (is-numbered (judged rows cols side farms source elevation g)
      (judged-number (λ n. 1 ≤ n) (omega arith) (omega arith) (omega arith) (omega arith) (omega arith) (omega arith) (omega arith) (omega arith) source))

  -- the first tests' numbers are neither 17 nor 18: they leave every lent grid as it was
  pub first-kept : {number place : ℕ} → verdict (first_tests rows cols side farms elevation g) ≡ failed number place → refused_grids number g ≡ g
  first-kept e = subst (OfNumber (λ n. refused_grids n g ≡ g)) e (first-number (λ n. refused_grids n g ≡ g) refl refl refl refl refl)

-- ---- the tests that both calls make first, in their order, as the code makes them

-- of all farms that begin so, from the number of their marks
of-farms : (settings : Settings) (marks : Option ℕ) {P : Farms → Type 0} → ((farms : Farms) → mark_places farms ≡ places_with marks → P farms) →
    OfFarms settings marks P
of-farms settings None h = h (one settings) refl
of-farms settings (Some n) h = λ second m e. h (two settings second m) (ap (λ (k : ℕ). k ∷ []) e)

module _ (rows cols side : ℕ) (settings : Settings) (marks : Option ℕ) (elevation : List ℤ) (g : Grids) where
  pub ground-rows : size_accepted rows ≡ false → JudgesGround rows cols side settings marks elevation g (Err (record { fault = Size; place = 0 }))
  ground-rows e = of-farms settings marks (λ farms p. rows-refused rows cols side farms elevation g e)

  pub ground-columns : size_accepted cols ≡ false → JudgesGround rows cols side settings marks elevation g (Err (record { fault = Size; place = 0 }))
  ground-columns e = of-farms settings marks (λ farms p. columns-refused rows cols side farms elevation g e)

  -- whether the lists are long is the same of all of them
  long-of : (farms : Farms) → mark_places farms ≡ places_with marks →
      all_long (rows * cols) (mark_places farms ++ places_of elevation g) ≡ all_long (rows * cols) (places_with marks ++ places_of elevation g)
  long-of farms p = ap (λ (l : List ℕ). all_long (rows * cols) (l ++ places_of elevation g)) p

  module _ (r : size_accepted rows ≡ true) (c : size_accepted cols ≡ true) where
    pub ground-long : all_long (rows * cols) (places_with marks ++ places_of elevation g) ≡ false →
        JudgesGround rows cols side settings marks elevation g (Err (record { fault = Length; place = 0 }))
    ground-long e = of-farms settings marks (λ farms p. long-refused rows cols side farms elevation g r c (long-of farms p ∙ e))

    module _ (l : all_long (rows * cols) (places_with marks ++ places_of elevation g) ≡ true) where
      pub ground-side : side_accepted side ≡ false → JudgesGround rows cols side settings marks elevation g (Err (record { fault = Side; place = 0 }))
      ground-side e = of-farms settings marks (λ farms p. side-refused rows cols side farms elevation g r c (long-of farms p ∙ l) e)

      pub ground-settings : side_accepted side ≡ true → JudgesGround rows cols side settings marks elevation g (settings_found 0 (judged_of settings))
      ground-settings s = go (judged_of settings) refl
        where
          refused : (marks : Option ℕ) (f : Refusal) {bad : Bad} → failed (number_of f.fault) f.place ≡ failed 4 (place_of bad) → judged_of settings ≡ Err bad →
              OfFarms settings marks (λ farms. verdict (first_tests rows cols side farms elevation g) ≡ verdict (farm_tests (rows * cols) farms)) →
              JudgesGround rows cols side settings marks elevation g (Err f)
          refused None f q e left = sym (judges-settings rows cols side settings elevation g left {j = Err f} q e).verdict-is
          refused (Some n) f q e left =
              λ second m h. sym (farms-settings rows cols side settings second m elevation g (left second m h) {j = Err f} q e).verdict-is

          go : (j : Result Rules Bad) → judged_of settings ≡ j → JudgesGround rows cols side settings marks elevation g (settings_found 0 j)
          go (Ok rules) e =
              (e, of-farms settings marks (λ farms p. let h = long-of farms p ∙ l in (h, farms-left rows cols side farms elevation g r c h s)))
          go (Err bad) e =
              let same : 0 + place_of bad ≡ place_of bad = omega arith in
              refused marks (record { fault = Setting; place = 0 + place_of bad }) (ap (failed 4) same) e
              (of-farms settings marks (λ farms p. farms-left rows cols side farms elevation g r c (long-of farms p ∙ l) s))

-- ---- the judgement of one farm

pub one-judged : (rows cols side : ℕ) (settings : Settings) (elevation : List ℤ) (g : Grids) (r : Result Rules Refusal) →
    JudgesGround rows cols side settings None elevation g r → Judges rows cols side settings elevation g r
one-judged rows cols side settings elevation g (Ok rules) j = judges-sound rows cols side settings elevation g j.1.1 j.0
one-judged rows cols side settings elevation g (Err f) j = judges-refused rows cols side settings elevation g refl j

-- ---- the judgement of two farms

-- the first mark above 1, as the code finds it: there, and where there is none
marked-at : (marks : List ℕ) {x : ℕ} → position (ltb 1) marks ≡ Some x → (x ≡ first_mark (length marks) marks) × (x < length marks)
unfolding first_mark
marked-at marks {x} e =
    let h = position-Some (ltb 1) marks x 0 e in
    (sym (first-is (λ y. ltb 1 (farm_at marks y)) (length marks) x h.2 h.0 h.1), h.0)

marked-none : (marks : List ℕ) → position (ltb 1) marks ≡ None → first_mark (length marks) marks ≡ length marks
unfolding first_mark
marked-none marks e =
    first-none (λ y. ltb 1 (farm_at marks y)) (length marks) (λ j h. fails_before_first (ltb 1) marks j 0 (omega (arith, long (either (ltb at (length marks))))))
  where
    at : ℕ
    at = position_or_len (ltb 1) marks

    long : (ltb at (length marks) ≡ true) ⊎ (ltb at (length marks) ≡ false) → length marks ≤ at
    long (inl t) = absurd (let q : ◌≡◌ {A = Option ℕ} (Some at) None = sym (ap (λ (b : Bool). cond b (Some at) None) t) ∙ e in cc)
    long (inr t) = ltb-false at (length marks) t

module _ (first : Rules) (second : Settings) (marks : List ℕ) where
  pub rest-found : {f : Refusal} → Err f ≡ settings_found 3 (judged_of second) → JudgesRest first second marks (Err f)
  rest-found {f} q = go (judged_of second) refl q
    where
      go : (j : Result Rules Bad) → judged_of second ≡ j → Err f ≡ settings_found 3 j → JudgesRest first second marks (Err f)
      go (Ok rules) e q = absurd (let z : ◌≡◌ {A = Result Rules Refusal} (Err f) (Ok rules) = q in cc)
      go (Err bad) e q =
          let z : f ≡ record { fault = Setting; place = 3 + place_of bad } = cc in
          rw z (rest-settings first second marks {r = Err (record { fault = Setting; place = 3 + place_of bad })} refl e refl)

  module _ {rules : Rules} (q : Ok rules ≡ settings_found 3 (judged_of second)) where
    accepted : judged_of second ≡ Ok rules
    accepted = go (judged_of second) q
      where
        go : (j : Result Rules Bad) → Ok rules ≡ settings_found 3 j → j ≡ Ok rules
        go (Ok given) q = cc
        go (Err bad) q = absurd (let z : ◌≡◌ {A = Result Rules Refusal} (Ok rules) (Err (record { fault = Setting; place = 3 + place_of bad })) = q in cc)

    pub rest-marked : {x : ℕ} → position (ltb 1) marks ≡ Some x → JudgesRest first second marks (Err (record { fault = Mark; place = x }))
    rest-marked p = let m = marked-at marks p in rest-marks first second marks accepted m.0 m.1 refl

    pub rest-passed : position (ltb 1) marks ≡ None → JudgesRest first second marks (Ok (record { first = first; second = rules }))
    rest-passed p = rest-sound first second marks accepted (sym (marked-none marks p)) (omega arith)

-- marks that pass 19 are all 0 or 1
pub marks-few : (n : ℕ) (s t : Settings) (marks : List ℕ) → length marks ≡ n → verdict (farm_tests n (two s t marks)) ≡ passed → Marked n marks
unfolding mark_test first_mark
marks-few n s t marks e v =
    let w = (verdict-passed _ _ (verdict-passed _ _ (verdict-passed _ _ v).1).1).0 in
    record { long = e; few = few (ltb-false (first_mark n marks) n (not-true (ltb (first_mark n marks) n) (test-passed _ 19 (first_mark n marks) w))) }
  where
    few : n ≤ first_mark n marks → (x : ℕ) → farm_at marks x < 2
    few h x = elim (dec_lt x n) [
      | yes l ↦ omega (arith, ltb-false 1 (farm_at marks x) (first-before (λ y. ltb 1 (farm_at marks y)) n x (omega arith)))
      | no f ↦ omega (arith, get_or-eq_default marks 0 {n = x} (omega arith))
    ]

-- so they are once the first tests are passed
pub first-marked : (rows cols side : ℕ) (s t : Settings) (marks : List ℕ) (elevation : List ℤ) (g : Grids) →
    verdict (first_tests rows cols side (two s t marks) elevation g) ≡ passed → Marked (rows * cols) marks
first-marked rows cols side s t marks elevation g e =
    marks-few (rows * cols) s t marks (all-places rows cols side (two s t marks) elevation g e).0 (first-farms rows cols side (two s t marks) elevation g e)
