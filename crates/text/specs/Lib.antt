-- The rules of a text and of its ranges, as the promises cite them; those named Inner are cited by inner functions only.
pub mod Bytes
pub mod Quantities
pub mod Reader
pub mod Words
pub mod Numbers
pub mod Right
pub mod Headers
pub mod Heights
pub mod Faults
pub mod Answers
pub mod Ranges
pub mod InnerWords
pub mod InnerNumbers
pub mod InnerHeaders
pub mod InnerHeights
