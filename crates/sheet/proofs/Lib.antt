pub mod Rooms
pub mod Examples
pub mod InnerShown
pub mod InnerSheets
