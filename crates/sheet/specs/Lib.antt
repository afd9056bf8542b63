-- What the promise of `print` cites
pub mod Lines
pub mod Sheet
-- What only inner functions cite
pub mod InnerGrids
pub mod InnerLines
pub mod InnerWriting
