-- `fullsize::crossing::hand_out` meets its contract. Assumes nothing.
use mathlib.Core.Path.{◌≡◌, sym, ap₂}
use Prim.Native.Nat.{ℕ}
use lib.Ieee.{of_bits}
use Rattle.settings.specs.declared.Channel.{Channel}
use Rattle.settings.specs.declared.Settings.{Settings}
use Rattle.fullsize.specs.Crossing.{numbers_of, numbers_with, formula_number}
use Rattle.fullsize.proofs.crossing.hand_out.Goals as goal

-- the numbers of settings with this channel rule
numbers-are : (s : Settings) {n : ℕ} {k : Channel} → n ≡ formula_number s.formula → s.channel ≡ k → numbers_with s.low s.high n k ≡ numbers_of s
unfolding numbers_of
numbers-are s e p = ap₂ (numbers_with s.low s.high) e (sym p)

pub returns-in-NoChannel : goal.returns-in-NoChannel
unfolding numbers_with of_bits
returns-in-NoChannel c = numbers-are c.args.settings c.formula_number.ensures c.in-NoChannel.is

pub returns-in-Cells : goal.returns-in-Cells
unfolding numbers_with of_bits
returns-in-Cells c = numbers-are c.args.settings c.formula_number.ensures c.in-Cells.is

pub returns-in-Percentage : goal.returns-in-Percentage
unfolding numbers_with
returns-in-Percentage c = numbers-are c.args.settings c.formula_number.ensures c.in-Percentage.is
