pub mod Cutoffs
pub mod Verdicts
