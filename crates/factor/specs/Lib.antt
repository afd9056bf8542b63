-- What `factor::map` promises is stated in the files from Slope to Answers; only inner functions cite Inner and InnerPass.
pub mod Slope
pub mod Percent
pub mod Farms
pub mod Channel
pub mod Inflow
pub mod Length
pub mod Exponent
pub mod LengthFactor
pub mod Steepness
pub mod Cell
pub mod Grid
pub mod Answers
pub mod Apart
pub mod Inner
pub mod InnerPass
