-- Computed examples
pub mod Examples
-- Laws of the definitions
pub mod Nearest
pub mod Units
pub mod Closest
pub mod Ieee
-- Laws that serve the functions
pub mod InnerRounding
pub mod InnerMagnitude
pub mod InnerSigns
pub mod InnerFaults
pub mod InnerCells
