mod Neighbours
mod Filling
mod Surfaces
mod Flats
mod Directions
mod Trails
mod Receivers
mod Inflows
mod Rings
mod Keeping
mod GivenExamples
mod Owning
mod Drainage
mod Answers
mod Dropping
pub mod Reading
pub mod Accepting
pub mod Public
mod InnerDescending
mod InnerGiving
mod InnerRinging
mod InnerPassing
mod InnerFollowing
mod InnerInterior
mod InnerFlooding
mod InnerStepping
mod InnerWading
mod InnerKeys
mod InnerPointing
mod InnerSurveying
mod InnerWords
mod InnerEdges
mod InnerQueueing
