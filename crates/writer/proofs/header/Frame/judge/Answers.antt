-- `writer::header::Frame::judge` meets its contract. Assumes nothing.
use mathlib.Core.Path.{sym}
use native.Mathlib.Omega.{arith}
use Rattle.text.proofs.Accepted.{area-few}
use Rattle.writer.proofs.InnerJudging.{rows-refused, columns-refused, cells-refused, side-refused, x-refused, y-refused, frame-passed}
use Rattle.writer.proofs.header.Frame.judge.Goals as goal

pub returns-then-not-is_size : goal.returns-then-not-is_size
returns-then-not-is_size c = sym (rows-refused _ _ _ _ _ _ (cc))

pub returns-then-not-is_size-2 : goal.returns-then-not-is_size-2
returns-then-not-is_size-2 c = sym (columns-refused _ _ _ _ _ _ (cc))

pub overflow_mul-self : goal.overflow_mul-self
overflow_mul-self c = let a = c.args.self.now in omega (arith, area-few a.rows a.columns (cc) (cc))

pub returns-then-cells-self : goal.returns-then-cells-self
returns-then-cells-self c = sym (cells-refused _ _ _ _ _ _ (cc) (cc) c.if-cells-self.true)

pub returns-then-not-is_side : goal.returns-then-not-is_side
returns-then-not-is_side c = sym (side-refused _ _ _ _ _ _ (cc) (cc) c.if-cells-self.false (cc))

pub returns-then-not-is_number : goal.returns-then-not-is_number
returns-then-not-is_number c = sym (x-refused _ _ _ _ _ _ (cc) (cc) c.if-cells-self.false (cc) (cc))

pub returns-then-not-is_number-2 : goal.returns-then-not-is_number-2
returns-then-not-is_number-2 c = sym (y-refused _ _ _ _ _ _ (cc) (cc) c.if-cells-self.false (cc) (cc) (cc))

pub returns : goal.returns
returns c = sym (frame-passed _ _ _ _ _ _ (cc) (cc) c.if-cells-self.false (cc) (cc) (cc))
