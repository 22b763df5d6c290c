pub mod Lists
pub mod Options
pub mod People
pub mod SeatKinds
mod Searched
pub mod StepNumbers
pub mod Streams
