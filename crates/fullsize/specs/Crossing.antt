-- Settings as plain numbers, for a caller that has no enum. RULES 7.3: the channel rule is a percentage of the largest flow count, a
-- number of cells, or none; the steepness formula is the older or the newer one. Assumes nothing.
use Rattle.std.specs.Prelude.{List, [], ◌∷◌, ℕ, Bool, true, false, cond, eqb, leb, Float}
use Rattle.laws.specs.Tests.{Test, test}
use Rattle.settings.specs.Settings.{quotient}
use Rattle.settings.specs.declared.Channel.{Channel}
use Rattle.settings.specs.declared.Channel.TheVariants.{Percentage, Cells, NoChannel}
use Rattle.settings.specs.declared.Formula.{Formula}
use Rattle.settings.specs.declared.Formula.TheVariants.{Older, Newer}
use Rattle.settings.specs.declared.Settings.{Settings}
use Rattle.terrain.specs.declared.Source.{Source}
use Rattle.terrain.specs.declared.Source.TheVariants.{Own, Given}

-- the two cutoffs; the kind of channel rule, 0 none, 1 a number of cells, 2 a percentage; these two; and the formula, 0 older, 1 newer
pub record Numbers : Type 0 where
  pub low : Float
  pub high : Float
  pub kind : ℕ
  pub cells : ℕ
  pub percentage : Float
  pub formula : ℕ

abbrev pub numbers : Float → Float → ℕ → ℕ → Float → ℕ → Numbers
numbers low high kind cells percentage formula =
    record { low = low; high = high; kind = kind; cells = cells; percentage = percentage; formula = formula }

-- 101 percent: a rule that is not accepted
unfoldable pub no_rule : Channel
unfolding quotient
no_rule = Percentage (quotient 10 1010)

-- The channel rule of a kind. A kind above 2 is no rule, so the map call refuses it as it does a bad percentage: 4 at 3 (the law `other-refused`).
unfoldable pub channel_of : ℕ → ℕ → Float → Channel
unfolding no_rule
channel_of kind cells percentage = cond (eqb kind 0) NoChannel (cond (eqb kind 1) (Cells cells) (cond (eqb kind 2) (Percentage percentage) no_rule))

-- The formula of a number: 0 the older one, 1 the newer. Any other number is no formula, and `formula_test` refuses it before it means anything.
unfoldable pub formula_of : ℕ → Formula
formula_of n = cond (eqb n 0) Older Newer

-- 4: a setting not accepted; the formula's place, 7 or for farm 1 8, is judged after the other settings
unfoldable pub formula_test : ℕ → ℕ → Test
formula_test place n = test (leb n 1) 4 place

-- the tests of the formula's number of one farm, and of each of two
abbrev pub one_formula : ℕ → List Test
one_formula n = formula_test 7 n ∷ []

abbrev pub two_formulas : ℕ → ℕ → List Test
two_formulas n m = formula_test 7 n ∷ formula_test 8 m ∷ []

-- whose directions a map takes: given ones, or our own
abbrev pub source_of : Bool → Source
source_of true = Given
source_of false = Own

unfoldable pub settings_of : Float → Float → ℕ → ℕ → Float → ℕ → Settings
unfolding channel_of formula_of
settings_of low high kind cells percentage formula =
    record { low = low; high = high; channel = channel_of kind cells percentage; formula = formula_of formula }

-- settings as numbers; the one that the kind leaves out is 0
unfoldable pub numbers_with : Float → Float → ℕ → Channel → Numbers
unfolding quotient
numbers_with low high formula NoChannel = numbers low high 0 0 (quotient 100 0) formula
numbers_with low high formula (Cells n) = numbers low high 1 n (quotient 100 0) formula
numbers_with low high formula (Percentage x) = numbers low high 2 0 x formula

unfoldable pub formula_number : Formula → ℕ
formula_number Older = 0
formula_number Newer = 1

-- settings come back from their numbers as they were (the law `back-numbers`)
unfoldable pub numbers_of : Settings → Numbers
unfolding numbers_with formula_number
numbers_of s = numbers_with s.low s.high (formula_number s.formula) s.channel
