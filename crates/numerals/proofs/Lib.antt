-- Laws of digits and of writing, for the crates above too
pub mod Decimal
pub mod Signs
pub mod Writing
-- Laws that serve the loops
pub mod InnerBack
