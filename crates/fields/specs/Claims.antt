-- RULES 8: What is claimed of small fields, lengths and factors, and when a claim holds: by the definitions that the map call promises. Assumes nothing.
use Rattle.std.specs.Prelude.{◌≡◌, List, [], ◌∷◌, ℕ, ◌*◌, replicate, ℤ, pos, Ok}
use Rattle.laws.specs.Tests.{failed}
use Rattle.settings.specs.declared.Channel.TheVariants.{NoChannel}
use Rattle.settings.specs.declared.Formula.{Formula}
use Rattle.settings.specs.declared.Formula.TheVariants.{Older, Newer}
use Rattle.settings.specs.declared.Settings.{Settings}
use Rattle.settings.specs.declared.Rules.{Rules}
use Rattle.settings.specs.Settings.{quotient}
use Rattle.terrain.specs.Answers.{ground_directions}
use Rattle.terrain.specs.declared.Source.{Source}
use Rattle.terrain.specs.declared.Source.TheVariants.{Own, Given}
use Rattle.factor.specs.Exponent.{exponent_of}
use Rattle.factor.specs.LengthFactor.{length_factor}
use Rattle.factor.specs.Steepness.{sine_of, steepness_factor}
use Rattle.factor.specs.Cell.{factor_of}
use Rattle.factor.specs.Farms.{Farms, one, two}
use Rattle.factor.specs.Answers.{Grids, map_of, answer, after, found}

-- what a map is claimed to be
pub record Maps : Type 0 where
  pub valids : ℕ
  pub longest : ℕ
  pub filled : List ℤ
  pub direction : List ℕ
  pub count : List ℕ
  pub lengths : List ℕ
  pub factors : List ℕ

-- a formula, cutoffs in percent, and no channels
abbrev pub settings_by : Formula → ℕ → ℕ → Settings
settings_by formula low high = record { low = quotient 100 low; high = quotient 100 high; channel = NoChannel; formula = formula }

-- the older formula, unless said
abbrev pub settings : ℕ → ℕ → Settings
settings = settings_by Older

-- cutoffs 0.5, no channels, unless said
abbrev pub half : Settings
half = settings 50 50

pub data Claim : Type 0 where
  -- rows, columns, cell side in cm, settings and ground give this map
  mapped : ℕ → ℕ → ℕ → Settings → List ℤ → Maps → Claim
  -- or, with these directions given, this map; or number and place, and zeros in the workspace
  drawn : ℕ → ℕ → ℕ → Settings → List ℤ → List ℕ → Maps → Claim
  drawn_wrong : ℕ → ℕ → ℕ → Settings → List ℤ → List ℕ → ℕ → ℕ → Claim
  -- or, for two farms and with these marks, this map; or number and place
  shared : ℕ → ℕ → ℕ → Settings → Settings → List ℕ → List ℤ → Maps → Claim
  shared_wrong : ℕ → ℕ → ℕ → Settings → Settings → List ℕ → List ℤ → ℕ → ℕ → Claim
  -- likewise with these directions given; at a refusal the last number is what the workspace, lent with 7 in every place, then holds
  shared_drawn : ℕ → ℕ → ℕ → Settings → Settings → List ℕ → List ℤ → List ℕ → Maps → Claim
  shared_drawn_wrong : ℕ → ℕ → ℕ → Settings → Settings → List ℕ → List ℤ → List ℕ → ℕ → ℕ → ℕ → Claim
  -- or number and place
  refused_at : ℕ → ℕ → ℕ → Settings → List ℤ → ℕ → ℕ → Claim
  -- or, with the rules of accepted settings, these lengths
  measured : ℕ → ℕ → ℕ → Rules → List ℤ → List ℕ → Claim
  -- for the exponent k/10 so many mm give t
  reaches : (k mm t : ℕ) → Claim
  -- a drop of so many cm to the east gives k; the side is 10 m
  east : (drop k : ℕ) → Claim
  -- a steepness and a length give LS; the side is 10 m
  factored : (q length ls : ℕ) → Claim
  -- a cell side and a steepness give the sine u, and by each formula S
  steep : (side q u older newer : ℕ) → Claim

-- n places of each grid as they are lent, with these directions, and the workspace with one number in every place
abbrev pub lent_with : ℕ → List ℕ → ℕ → Grids
lent_with n directions held =
    record {
      filled = replicate n (pos 7);
      direction = directions;
      count = replicate n 7;
      lengths = replicate n 7;
      factors = replicate n 7;
      workspace = replicate n held;
    }

-- the same where no directions are given
abbrev pub lent : ℕ → Grids
lent n = lent_with n (replicate n 7) 7

-- a call with these lent grids gives this map
module _ (rows cols side : ℕ) (farms : Farms) (source : Source) (elevation : List ℤ) (g : Grids) where
  abbrev Gives : Maps → Type 0
  Gives m =
      (answer rows cols side farms source elevation g ≡ Ok (record { valid = m.valids; longest = m.longest }))
      × (after rows cols side farms source elevation g
      ≡ record {
        filled = m.filled;
        direction = m.direction;
        count = m.count;
        lengths = m.lengths;
        factors = m.factors;
        workspace = replicate (rows * cols) 0;
      })

  -- or this number and place, and leaves the grids h
  abbrev Refuses : ℕ → ℕ → Grids → Type 0
  Refuses number place h =
      (found (answer rows cols side farms source elevation g) ≡ failed number place)
      × (after rows cols side farms source elevation g ≡ h)

abbrev pub Holds : Claim → Type 0
Holds (mapped rows cols side given elevation m) = Gives rows cols side (one given) Own elevation (lent (rows * cols)) m
Holds (drawn rows cols side given elevation dir m) = Gives rows cols side (one given) Given elevation (lent_with (rows * cols) dir 7) m
Holds (drawn_wrong rows cols side given elevation dir number place) =
    Refuses rows cols side (one given) Given elevation (lent_with (rows * cols) dir 7) number place (lent_with (rows * cols) dir 0)
Holds (shared rows cols side first second marks elevation m) = Gives rows cols side (two first second marks) Own elevation (lent (rows * cols)) m
Holds (shared_wrong rows cols side first second marks elevation number place) =
    Refuses rows cols side (two first second marks) Own elevation (lent (rows * cols)) number place (lent (rows * cols))
Holds (shared_drawn rows cols side first second marks elevation dir m) =
    Gives rows cols side (two first second marks) Given elevation (lent_with (rows * cols) dir 7) m
Holds (shared_drawn_wrong rows cols side first second marks elevation dir number place held) =
    Refuses rows cols side (two first second marks) Given elevation (lent_with (rows * cols) dir 7) number place (lent_with (rows * cols) dir held)
Holds (refused_at rows cols side given elevation number place) = Refuses rows cols side (one given) Own elevation (lent 2) number place (lent 2)
Holds (measured rows cols side rules elevation lengths) =
    (let dir = ground_directions rows cols elevation in (map_of rows cols side (λ x. rules) elevation dir).lengths) ≡ lengths
Holds (reaches k mm t) = length_factor k mm ≡ t
Holds (east drop k) = exponent_of 1000 (2 * (drop * drop)) ≡ k
Holds (factored q length ls) = factor_of Older 1000 q length ≡ ls
Holds (steep side q u older newer) = (sine_of side q ≡ u) × (steepness_factor Older side q ≡ older) × (steepness_factor Newer side q ≡ newer)

abbrev pub All : List Claim → Type 0
All [] = Unit
All (c ∷ l) = Holds c × All l
