pub mod Outcomes
pub mod Crossing
pub mod Mapping
pub mod Reporting
pub mod Lent
pub mod InnerMapping
