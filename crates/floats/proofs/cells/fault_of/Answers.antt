-- `floats::cells::fault_of` meets its contract. Assumes nothing.
use native.Mathlib.Omega.{arith}
use Rattle.floats.proofs.InnerFaults.{equal-same, fault-infinite, fault-no-data, plus-clear, plus-fault, minus-clear, minus-fault}
use Rattle.floats.proofs.cells.fault_of.Goals.{then-bits-lt-MINUS, else-bits-lt-MINUS}
use Rattle.floats.proofs.cells.fault_of.Goals.{then-is_equal-via-then-is_equal, then-is_equal-via-else-is_equal+then-m-most}
use Rattle.floats.proofs.cells.fault_of.Goals as goal

pub returns-then-v-lt-INFINITE : goal.returns-then-v-lt-INFINITE
returns-then-v-lt-INFINITE c = fault-no-data _ _ (rw c.if-bits-v.true c.if-v-lt-INFINITE.true) (equal-same _ _ c.if-bits-v.true)

pub returns-then-m-ge-INFINITE : goal.returns-then-m-ge-INFINITE
returns-then-m-ge-INFINITE c = fault-infinite _ _ c.if-m-ge-INFINITE.true

pub returns-then-is_equal : goal.returns-then-is_equal
returns-then-is_equal c =
    elim c.then-is_equal.branch [
      | then-is_equal-via-then-is_equal w ↦ fault-no-data _ _ (omega (arith, c.if-m-ge-INFINITE.false)) (cc)
      | then-is_equal-via-else-is_equal+then-m-most w ↦
          elim c.if-bits-lt-MINUS.branch [
            | then-bits-lt-MINUS u ↦ plus-clear _ _ (omega (arith, c.if-m-ge-INFINITE.false)) (cc) u.if-bits-lt-MINUS.true (omega (arith, w.if-m-most.true, u.most-is))
            | else-bits-lt-MINUS u ↦ minus-clear _ _ (omega (arith, c.if-m-ge-INFINITE.false)) (cc) u.if-bits-lt-MINUS.false (omega (arith, w.if-m-most.true, u.most-is))
          ]
    ]

pub returns : goal.returns
returns c =
    elim c.if-bits-lt-MINUS.branch [
      | then-bits-lt-MINUS u ↦ plus-fault _ _ (omega (arith, c.if-m-ge-INFINITE.false)) (cc) u.if-bits-lt-MINUS.true (omega (arith, c.if-m-most.false, u.most-is))
      | else-bits-lt-MINUS u ↦ minus-fault _ _ (omega (arith, c.if-m-ge-INFINITE.false)) (cc) u.if-bits-lt-MINUS.false (omega (arith, c.if-m-most.false, u.most-is))
    ]
