-- RULES 5.1: channel cells. Assumes nothing.
use Rattle.std.specs.Prelude.{List, Bool, false, ℕ, ◌*◌, get_or, ltb}
use Rattle.laws.specs.Sums.{greatest_to}
use Rattle.settings.specs.declared.Threshold.{Threshold}
use Rattle.settings.specs.declared.Threshold.TheVariants.{Share, Over, Never}
use Rattle.settings.specs.declared.Rules.{Rules}

-- A channel cell has 1,000·count > n·largest, or count > the given number of cells; equality is no channel.
unfoldable pub is_channel : Threshold → ℕ → ℕ → Bool
is_channel (Share n) largest count = ltb (n * largest) (1000 * count)
is_channel (Over n) largest count = ltb n count
is_channel Never largest count = false

-- the largest flow count
unfoldable pub largest_of : ℕ → List ℕ → ℕ
unfolding greatest_to
largest_of n count = greatest_to n (λ x. get_or count x 0)

-- the cell x is a channel
unfoldable pub channel_at : ℕ → ℕ → Rules → List ℕ → ℕ → Bool
unfolding is_channel largest_of
channel_at rows cols rules count x = is_channel rules.threshold (largest_of (rows * cols) count) (get_or count x 0)
