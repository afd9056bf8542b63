-- RULES 5.2: the length of every cell, over filled levels, a list of directions and its flow counts. Assumes nothing.
use Rattle.std.specs.Prelude.{List, get_or}
use Rattle.std.proofs.Math.Bool.{cond}
use Prim.Native.Nat.{ℕ, zero, suc, ◌*◌}
use Rattle.laws.specs.Lists.{tab}
use Rattle.laws.specs.First.{some_of}
use Rattle.laws.specs.Sums.{greatest_to, when}
use Rattle.settings.specs.declared.Rules.{Rules}
use Rattle.terrain.specs.Cells.{neighbour, bearing_of}
use Rattle.terrain.specs.Trail.{mapped_at, into_at}
use Rattle.factor.specs.Slope.{steepness_at}
use Rattle.factor.specs.Channel.{channel_at}
use Rattle.factor.specs.Inflow.{cutoff_for, start_length, step_over, amount_of}

module _ (rows cols side : ℕ) (rules : Rules) (lv dir : List ℕ) where
  -- the cutoff that the cell z uses for its inflows, in percent
  unfoldable pub cutoff_at : ℕ → ℕ
  unfolding cutoff_for steepness_at
  cutoff_at z = cutoff_for rules.low rules.high side (steepness_at rows cols lv dir z)

  -- what the cell x brings to the cell z, if it points at z and its length is len
  unfoldable pub brought_to : ℕ → ℕ → ℕ → ℕ
  unfolding bearing_of steepness_at cutoff_at start_length amount_of step_over
  brought_to z x len =
      amount_of (cutoff_at z) (steepness_at rows cols lv dir z) (steepness_at rows cols lv dir x)
      (start_length (get_or dir z 255)) (step_over (bearing_of (get_or dir x 255))) len

module _ (rows cols side : ℕ) (rules : ℕ → Rules) (lv dir count : List ℕ) where
  -- the length of z, by its own rules and the lengths f of its inflows: The greatest amount is the length. A channel and a NoData cell have 0.
  unfoldable pub length_from : (ℕ → ℕ) → ℕ → ℕ
  unfolding mapped_at channel_at some_of neighbour into_at greatest_to when brought_to start_length
  length_from f z =
      cond (mapped_at rows cols dir z)
      (cond (channel_at rows cols (rules z) count z) 0
      (cond (some_of (into_at rows cols dir z) 8)
      (greatest_to 8 (λ k. let x = neighbour rows cols z k in when (into_at rows cols dir z k) (brought_to rows cols side (rules z) lv dir z x (f x))))
      (start_length (get_or dir z 255))))
      0

  -- the length of z, by trails to it of at most m steps
  unfoldable pub length_in : ℕ → ℕ → ℕ
  unfolding length_from
  length_in zero z = length_from (λ y. 0) z
  length_in (suc m) z = length_from (length_in m) z

  unfoldable pub lengths_of : List ℕ
  unfolding tab length_in
  lengths_of = tab (rows * cols) (length_in (rows * cols))
