-- Only inner functions cite this file: what they assume, and what they answer. Assumes nothing.
use Rattle.std.specs.Prelude.{ℕ, ◌+◌, ◌-◌, ◌*◌, ◌/◌, ◌%◌, ◌^◌, ◌≤◌, ◌<◌, Bool, true, cond, List, [], ◌∷◌, ◌++◌, ◌≡◌, ltb, leb, eqb, ℤ, length, get_or, Option, Some, None, Result, Ok, Err}
use Rattle.laws.specs.Tests.{passed, failed, verdict}
use Rattle.text.specs.Faults.{number_of}
use Rattle.text.specs.Ranges.{all_long}
use Rattle.text.specs.declared.Refusal.{Refusal}
use Rattle.settings.specs.declared.Settings.{Settings}
use Rattle.settings.specs.declared.Setting.{Setting as Bad}
use Rattle.settings.specs.Settings.{judged_of, place_of}
use Rattle.text.specs.declared.faults.Fault.TheVariants.{Setting}
use Rattle.settings.specs.declared.Rules.{Rules}
use Rattle.factor.specs.Inflow.{cutoff_for, step_over, amount_of}
use Rattle.factor.specs.LengthFactor.{greatest_mm, reached}
use Rattle.terrain.specs.Filled.{top}
use Rattle.terrain.specs.Drainage.{Trails, Totals, Surface}
use Rattle.terrain.specs.declared.Source.{Source}
use Rattle.factor.specs.Farms.{Farms, one, two, rules_in, mark_places, farm_tests}
use Rattle.factor.specs.Answers.{Grids, places_of, first_tests, answer, after, accepts, told}
use Rattle.terrain.specs.declared.Summary.{Summary}

-- a cell side, and a steepness as small as those of a map: at most twice the square of a drop below 2^21 cm
pub record Sloping (side q : ℕ) : Type 0 where
  pub side-some : 1 ≤ side
  pub side-small : side ≤ 100000
  pub steepness-small : q < 2 ^ 43

-- a constant list gives the first millimetre at which each t is reached: in the row of each class of slopes, the entry of t is at
-- most a length just where the length reaches t
pub record Listed (lists : List ℕ) : Type 0 where
  pub tells : (class t mm : ℕ) → class < 4 → t < 373 → mm ≤ greatest_mm → leb (get_or lists (373 * class + t) 0) mm ≡ reached (class + 2) mm t

-- a class and a length that have a factor
pub record Looked (class mm : ℕ) (lists : List ℕ) : Type 0 where
  pub class-in : class < 4
  pub length-in : mm ≤ greatest_mm
  pub listed : Listed lists

-- a cell, whose length is as small as those of a map: at most 14,142 for each of 1,048,576 cells, and 7,071
pub record Measured (side q len : ℕ) (lists : List ℕ) : Type 0 where
  pub sloping : Sloping side q
  pub length-small : len < 2 ^ 36
  pub listed : Listed lists

-- no less than any fall, any steepness and any length: no level is above `top`, and a step is at most a diagonal
abbrev pub greatest_fall : ℕ
greatest_fall = 2 * top + 1

abbrev pub steepest : ℕ
steepest = 2 * (top * top)

abbrev pub greatest_length : ℕ
greatest_length = 15000000000

-- the steepness of a fall
unfoldable pub steepness_of : ℕ → ℕ
steepness_of fall = cond (eqb (fall % 2) 0) (2 * ((fall / 2) * (fall / 2))) ((fall / 2) * (fall / 2))

-- the length of a cell that is a channel or not, from where it would start and one more than the greatest amount brought, 0 for none
unfoldable pub final_length : Bool → ℕ → ℕ → ℕ
final_length channel start gathered = cond channel 0 (cond (ltb gathered 1) start (gathered - 1))

-- what a cutoff of n percent leaves of 100, squared
unfoldable pub left_by : ℕ → ℕ
left_by n = (100 - n) * (100 - n)

-- what an inflow of steepness p and this length brings to its neighbour k, a cell of steepness q whose length would start with `start`
unfoldable pub brought_by : ℕ → Rules → ℕ → ℕ → ℕ → ℕ → ℕ → ℕ
unfolding cutoff_for amount_of step_over
brought_by side rules k p q start len = amount_of (cutoff_for rules.low rules.high side q) q p start (step_over k) len

-- ---- the tests that both calls make first

-- what is found of settings, if a bad one's place comes after so many of another farm's
abbrev pub settings_found : ℕ → Result Rules Bad → Result Rules Refusal
settings_found before (Ok rules) = Ok rules
settings_found before (Err bad) = Err (record { fault = Setting; place = before + place_of bad })

-- how many places marks have, where there are some
abbrev pub places_with : Option ℕ → List ℕ
places_with None = []
places_with (Some n) = n ∷ []

-- what holds of whatever farms begin with these settings, and with so many marks where there are some
abbrev pub OfFarms : Settings → Option ℕ → (Farms → Type 0) → Type 0
OfFarms settings None P = P (one settings)
OfFarms settings (Some n) P = (second : Settings) (marks : List ℕ) → length marks ≡ n → P (two settings second marks)

-- what is found by them of whatever farms begin so: a refusal is that of all their first tests; else the rules are the settings', the marks and
-- the lent lists are long, and the farms' own tests alone are left
module _ (rows cols side : ℕ) (settings : Settings) (marks : Option ℕ) (elevation : List ℤ) (g : Grids) where
  abbrev pub JudgesGround : Result Rules Refusal → Type 0
  JudgesGround (Err f) = OfFarms settings marks (λ farms. verdict (first_tests rows cols side farms elevation g) ≡ failed (number_of f.fault) f.place)
  JudgesGround (Ok rules) =
      (judged_of settings ≡ Ok rules)
      × OfFarms settings marks (λ farms. (all_long (rows * cols) (mark_places farms ++ places_of elevation g) ≡ true)
      × (verdict (first_tests rows cols side farms elevation g) ≡ verdict (farm_tests (rows * cols) farms)))

-- ---- the map call after the first tests

module _ (rows cols side : ℕ) (farms : Farms) where
  -- they are passed, and each cell's rules are those of its farm's settings
  pub record Passing (rules : ℕ → Rules) (elevation : List ℤ) (g : Grids) : Type 0 where
    pub passes : verdict (first_tests rows cols side farms elevation g) ≡ passed
    pub rules-are : rules ≡ rules_in farms

  -- the promise of the map call, for lent grids g, an answer, and the grids h that it leaves
  module _ (source : Source) (elevation : List ℤ) (g : Grids) where
    abbrev pub Promised : Result Summary Refusal → Grids → Type 0
    Promised a h =
        (a ≡ answer rows cols side farms source elevation g)
        × ((h ≡ after rows cols side farms source elevation g)
        × ((accepts a ≡ true → Trails rows cols elevation h.filled h.direction)
        × ((accepts a ≡ true → Totals rows cols elevation h.direction h.count (told a).valids)
        × (accepts a ≡ true → Surface rows cols elevation h.filled))))
