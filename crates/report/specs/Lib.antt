-- What the promises cite
pub mod Maps
pub mod Reports
pub mod Joins
pub mod Answers
-- What only inner functions cite
pub mod InnerCells
pub mod InnerJoins
pub mod InnerTests
