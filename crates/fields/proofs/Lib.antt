pub mod Papers
pub mod Inland
pub mod Rules
pub mod Formulas
pub mod Drawn
pub mod Shared
