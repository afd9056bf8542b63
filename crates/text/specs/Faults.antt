-- RULES 3.1: the numbers of refusal, each with the case of the enum that stands for it. Assumes nothing.
use Rattle.std.specs.Prelude.{ℕ, cond, eqb}
use Rattle.text.specs.declared.faults.Fault.{Fault}
use Rattle.text.specs.declared.faults.Fault.TheVariants.{Size, Length, Side, Setting, Height, Name, Malformed, Fine, Ended, Trailing, Large, Comma, Room, FloatBytes, NotFinite, Overflow, Direction, Ring, Mark}

-- the number of a fault
abbrev pub number_of : Fault → ℕ
number_of Size = 1
number_of Length = 2
number_of Side = 3
number_of Setting = 4
number_of Height = 5
number_of Name = 6
number_of Malformed = 7
number_of Fine = 8
number_of Ended = 9
number_of Trailing = 10
number_of Large = 11
number_of Comma = 12
number_of Room = 13
number_of FloatBytes = 14
number_of NotFinite = 15
number_of Overflow = 16
number_of Direction = 17
number_of Ring = 18
number_of Mark = 19

-- the fault of a number from 1 to 19 (the laws `back-fault` and `back-number`)
unfoldable pub fault_of : ℕ → Fault
fault_of n =
    cond (eqb n 1) Size (
    cond (eqb n 2) Length (
    cond (eqb n 3) Side (
    cond (eqb n 4) Setting (
    cond (eqb n 5) Height (
    cond (eqb n 6) Name (
    cond (eqb n 7) Malformed (
    cond (eqb n 8) Fine (
    cond (eqb n 9) Ended (
    cond (eqb n 10) Trailing (
    cond (eqb n 11) Large (
    cond (eqb n 12) Comma (
    cond (eqb n 13) Room (
    cond (eqb n 14) FloatBytes (
    cond (eqb n 15) NotFinite (
    cond (eqb n 16) Overflow (
    cond (eqb n 17) Direction (
    cond (eqb n 18) Ring Mark)))))))))))))))))
