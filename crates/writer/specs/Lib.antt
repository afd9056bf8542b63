-- What the promises cite
pub mod Words
pub mod Text
pub mod Answers
pub mod Rooms
-- What only inner functions cite
pub mod InnerCells
pub mod InnerJudging
pub mod InnerFrame
