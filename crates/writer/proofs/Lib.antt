-- Computed examples
pub mod Examples
-- Laws that a text which is written is read back
pub mod Accepted
pub mod Digits
pub mod Forms
pub mod WordsBack
pub mod InnerRows
pub mod HeightsBack
pub mod HeaderBack
pub mod TextBack
pub mod ReadBack
-- Laws of a room's size
pub mod Rooms
-- Laws that serve the code
pub mod InnerWords
pub mod InnerCells
pub mod InnerHeader
pub mod InnerJudging
pub mod InnerAnswers
