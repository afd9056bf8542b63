-- What the promise cites
pub mod Floats
pub mod Rounding
pub mod Answers
-- What inner functions cite
pub mod InnerCells
