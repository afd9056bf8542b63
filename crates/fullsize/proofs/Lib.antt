-- What the proofs of several functions use, and laws on the settings as numbers.
pub mod Formulas
pub mod Maps
pub mod ReportNumbers
pub mod Rules
