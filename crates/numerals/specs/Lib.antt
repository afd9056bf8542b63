-- What the promises cite
pub mod Words
pub mod Writing
