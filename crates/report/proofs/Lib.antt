-- Computed examples
pub mod Examples
-- Laws of the report of a list
pub mod Leaders
pub mod Lists
pub mod Additions
-- Laws that serve the code
pub mod InnerSpans
pub mod InnerCells
pub mod InnerFlow
pub mod InnerLead
pub mod InnerTally
pub mod InnerJoins
pub mod InnerJudging
pub mod InnerSingle
pub mod InnerAdditions
