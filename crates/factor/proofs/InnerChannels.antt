-- Counts of channels, as the code bounds them. Assumes nothing.
use mathlib.Core.Path.{◌≡◌, sym, ap, ◌∙◌}
use mathlib.Core.List.{List}
use Prim.Native.Nat.{ℕ, zero, suc, ◌*◌, ◌/◌, ◌≤◌, ◌<◌}
use native.Mathlib.Omega.{arith}
use native.Mathlib.Decide.{dec_lt}
use lib.ListN.{length, get_or}
use lib.Dec.{ltb}
use borrow.Author.Tests.{lt-ltb, le-ltb}
use Rattle.laws.proofs.Sums.{greatest-ge}
use Rattle.settings.specs.declared.Rules.{Rules}
use Rattle.factor.specs.Farms.{of_farm}
use Rattle.factor.specs.InnerPass.{farm_in, Farmed}
use Rattle.factor.specs.declared.pass.Terms.{Terms}
use Rattle.factor.specs.Channel.{is_channel, largest_of, channel_at}

-- a share of the largest count, as a whole number of cells
pub share-test : (m c : ℕ) → ltb (m / 1000) c ≡ ltb m (1000 * c)
share-test m c =
    elim (dec_lt (m / 1000) c) [
      | yes h ↦ lt-ltb (m / 1000) c h ∙ sym (lt-ltb m (1000 * c) (omega arith))
      | no f ↦ le-ltb (m / 1000) c (omega arith) ∙ sym (le-ltb m (1000 * c) (omega arith))
    ]

-- no count is above the largest
largest-ge : (count : List ℕ) (x : ℕ) → x < length count → get_or count x 0 ≤ largest_of (length count) count
unfolding largest_of
largest-ge count x h = greatest-ge (length count) (λ y. get_or count y 0) x h

-- the counts above `most` are those of channels, if that holds of every number up to the largest count
pub bounded : (rows cols : ℕ) (rules : Rules) (most : ℕ) (count : List ℕ) → length count ≡ rows * cols →
    ((c : ℕ) → c ≤ largest_of (length count) count → ltb most c ≡ is_channel rules.threshold (largest_of (length count) count) c) →
    (x : ℕ) → x < rows * cols → ltb most (get_or count x 0) ≡ channel_at rows cols rules count x
unfolding channel_at
bounded rows cols rules most count e m x h =
    m (get_or count x 0) (largest-ge count x (omega arith)) ∙ ap (λ (n : ℕ). is_channel rules.threshold (largest_of n count) (get_or count x 0)) e

-- the bounds of two farms
pub bounds-both : (first second : Rules) (largest : ℕ) (terms : Terms) → Farmed first largest terms.first → Farmed second largest terms.second →
    (farm c : ℕ) → farm < 2 → c ≤ largest → ltb (farm_in terms farm).most c ≡ is_channel (of_farm first second farm).threshold largest c
bounds-both first second largest terms p q zero c h l = p.tells c l
bounds-both first second largest terms p q (suc zero) c h l = q.tells c l
bounds-both first second largest terms p q (suc (suc n)) c h l = absurd (omega arith)
